-- Four beats of what a row moves are its whole, as lists of elements.
use Rattle.std.proofs.Common.{◌≡◌, Result, subst}
use Rattle.hm_base.specs.declared.Fault.{Fault}
use Rattle.hm_state.specs.State.{State}
use Rattle.hm_beat.specs.Laws.{RowLaws}
use Rattle.hm_moves.specs.Moves.{moves_tree, moves_by_words}
use Rattle.hm_moves.specs.Ways.{Found, Transfer, at_addresses, at_offsets, contiguous, interleaved, moves_by}
use Rattle.hm_moves.specs.Wholes.{FitsRegister, transfer_whole}
use Rattle.hm_moves.proofs.InterleavedWholes.{interleaved_is}
use Rattle.hm_moves.proofs.Moves.{moves_laws}
use Rattle.hm_moves.proofs.OneRegister.{addresses_is, contiguous_is, offsets_is}
use Rattle.hm_moves.proofs.Owed.{move_is}

transfer_is : (t : Transfer) → FitsRegister t → (s : State) → moves_by_words (moves_by t) s ≡ transfer_whole t s
transfer_is t narrow s = go t.found
  where
    go : (w : Found) → (let u : Transfer = record t { found = w } in moves_by_words (moves_by u) s ≡ transfer_whole u s)
    go (contiguous d n offset before back) = contiguous_is t.store t.memory t.register t.signed d n offset before back s narrow
    go (at_offsets d n m scale) = offsets_is t.store t.memory t.register t.signed d n m scale s narrow
    go (at_addresses d m offset back) = addresses_is t.store t.memory t.register t.signed d m offset back s narrow
    go (interleaved d n four part back) = interleaved_is t.store t.memory t.register t.signed d n four part back s narrow

pub transfer_laws : (t : Transfer) → FitsRegister t → RowLaws (moves_tree (moves_by t)) (transfer_whole t)
transfer_laws t narrow = subst (λ (w : State → Result State Fault). RowLaws (moves_tree (moves_by t)) w) (λ j s. transfer_is t narrow s j)
    (moves_laws (moves_by t) (move_is t))
