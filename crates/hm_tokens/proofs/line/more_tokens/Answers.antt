use Rattle.std.proofs.Common.{◌≡◌, ◌∷◌, [], ◌++◌, ◌+◌, ◌<◌, map, length, ◌∙◌, arith, rules}
use Rattle.std.proofs.lemmas.List.{map_push}
use Rattle.hm_tokens.specs.Tokens.{tok}
use Rattle.hm_tokens.specs.Steps.{tokens_from}
use Rattle.hm_tokens.proofs.Lines.{more, none, full, is_done, begins}
use Rattle.hm_tokens.proofs.line.more_tokens.Goals as goal

pub returns-then-is_full : goal.returns-then-is_full
returns-then-is_full c = record {
  read =
      full (map tok c.loop-rest.tokens.items) (length c.loop-rest.tokens.items) c.loop-rest.rest.now _ (search rules) (search rules)
      (c.loop-rest.invariant.so_far ∙ begins c.args.first c.push.new.self.items (tokens_from 39 c.args.text.now) (search rules));
}

pub returns-in_err-token : goal.returns-in_err-token
returns-in_err-token c = record {
  read =
      rw c.from_residual.ensures (none (map tok c.loop-rest.tokens.items) (length c.loop-rest.tokens.items) c.loop-rest.rest.now _ (search rules)
      (search rules) c.in_err-token.ensures.read
      (c.loop-rest.invariant.so_far ∙ begins c.args.first c.push.new.self.items (tokens_from 39 c.args.text.now) (search rules)));
}

pub loop-rest-preserved : goal.loop-rest-preserved
loop-rest-preserved c =
    let e : map tok c.push-in-loop-rest.new.self.items ≡ map tok c.loop-rest.tokens.items ++ tok c.in_ok-token.token ∷ [] =
    rw c.push-in-loop-rest.ensures.items (map_push tok c.loop-rest.tokens.items c.in_ok-token.token) in
    let room : length c.loop-rest.tokens.items < 40 = search rules in
    let k : length c.push-in-loop-rest.new.self.items ≡ length c.loop-rest.tokens.items + 1 = omega (arith, c.push-in-loop-rest.ensures.len) in
    record {
      so_far = rw (e, k, c.skip-rest.ensures.rest)
          (more (map tok c.loop-rest.tokens.items) (length c.loop-rest.tokens.items) c.loop-rest.rest.now (tok c.in_ok-token.token) c.in_ok-token.after.now _
          (search rules) room c.in_ok-token.ensures.read c.loop-rest.invariant.so_far);
      within = omega (arith, k, room);
    }

pub returns : goal.returns
returns c = record {
  read = is_done (map tok c.loop-rest.tokens.items) _ c.loop-rest.rest.now _ (search rules)
      (c.loop-rest.invariant.so_far ∙ begins c.args.first c.push.new.self.items (tokens_from 39 c.args.text.now) (search rules));
}
