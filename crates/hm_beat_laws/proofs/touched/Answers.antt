use Rattle.std.proofs.Common.{◌≡◌, ℕ, sym, ap, subst, ◌∙◌}
use Rattle.hm_isa.specs.declared.Vector.{Vector}
use Rattle.hm_mem.specs.Memory.{Around}
use Rattle.hm_state.specs.State.{State, state_of}
use Rattle.hm_beat.specs.Meeting.{Touches, touches}
use Rattle.hm_beat.specs.Rows.{Tree}
use Rattle.hm_rows.specs.Rows.{kind_of, vector_tree}
use Rattle.hm_beat_laws.specs.Places.{IsByTable}
use Rattle.hm_beat_laws.proofs.Places.{kind_places}
use Rattle.hm_beat_laws.proofs.touched.Goals as goal

by_table : (v : Vector) (x : Around) (b : ℕ) (s : State) (t : Tree) (k : Touches) → t ≡ vector_tree v x b → k ≡ touches t s → IsByTable (kind_of v) b s k
by_table v x b s t k row is =
    let all : k ≡ touches (vector_tree v x b) s = is ∙ ap (λ (u : Tree). touches u s) row in
    subst (λ (l : Touches). IsByTable (kind_of v) b s l) (sym all) (kind_places (kind_of v) x b s)

pub returns : goal.returns
returns g c = record {
  table = λ v row m output.
      by_table v m.around c.args.b (state_of c.args.r.now m output) _ _ (ap (λ (t : Around → ℕ → Tree). t m.around c.args.b) row)
      (λ j. record {
        reads = c.touch.ensures.reads m output j;
        writes = c.touch.ensures.writes m output j;
        loads = c.touch.ensures.loads m output j;
        stores = c.touch.ensures.stores m output j;
      });
}
