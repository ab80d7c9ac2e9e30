use Rattle.std.proofs.Common.{◌≡◌, ◌++◌, drop, length}
use Rattle.std.specs.Prelude.{All}
use Rattle.hm_base.specs.Place.{IsPlace}
use Rattle.hm_kinds.specs.declared.rows.Written.{Written}
use Rattle.hm_mem.specs.Memory.{memory_of}
use Rattle.hm_mem.specs.Seen.{seen}
use Rattle.hm_moves.specs.Coded.{old_word, puts_of, word_puts}
use Rattle.hm_moves.specs.Ways.{moves_of}
use Rattle.hm_moves.proofs.beats.fill_words.Given as goal

abbrev pub invariant-loop-j : goal.invariant-loop-j
invariant-loop-j l =
    let i = moves_of l.row in
    let s = seen (memory_of l.m) in
    record {
      value : puts_of l.ws.items ++ word_puts i l.j l.es (drop l.j l.list) (old_word i l.r) s ≡ word_puts i 0 l.es l.list (old_word i l.r) s;
      size : length l.ws.items ≡ l.j;
      written : All (λ (w : Written). IsPlace w.place) l.ws.items;
    }
