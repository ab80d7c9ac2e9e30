-- A step leaves priorities of three bits.
use Rattle.std.proofs.Common.{ℕ, zero, suc, ◌+◌, ◌-◌, Bool, true, false, List, [], ◌∷◌, length, take, map, arith, refl}
use Rattle.std.specs.Prelude.{Option, Some, None, Result, Ok, Err, IfOk, All, nat_lt}
use Rattle.std.proofs.lemmas.List.Elements.{All-append, All-drop, All-map, All-replicate, All-take}
use Rattle.std.specs.List.{range_with_len}
use Rattle.hm_isa.specs.declared.Instr.{Instr}
use Rattle.hm_mem.specs.Devices.{after_read, byte_of, put_prios, top_three, device_word, write_devices}
use Rattle.hm_mem.specs.Memory.{first_devices}
use Rattle.hm_mem.specs.Seen.{Seen, after_load, after_store, lies_in_sram}
use Rattle.hm_mem.specs.declared.Dev.{Dev}
use Rattle.hm_mem.specs.declared.Word.{Word}
use Rattle.hm_mem.specs.declared.Word.TheVariants.{Csr, Ipr, Shpr3, Fixed}
use Rattle.hm_regs.specs.declared.Regs.{Regs}
use Rattle.hm_thumb.specs.Does.{Does, Ends, Faults, Loads, Stores, Done, Runner, after_loads, after_stores, behind, first_stop, run, words}
use Rattle.hm_isa.specs.Code.{width_of}
use Rattle.hm_thumb.specs.Rows.{in_block}
use Rattle.hm_thumb.specs.Steps.{finish, step}
use Rattle.hm_run_laws.specs.Levels.{HasLevels, IsLevel}
use Rattle.hm_run_laws.proofs.Choices.{either, if_done}

top-level : (x : ℕ) → IsLevel (top_three x)
top-level x = (omega arith, omega arith)

pub start-levels : HasLevels first_devices
start-levels = record { interrupts = All-replicate IsLevel 240 0 (refl, omega arith); tick = (refl, omega arith) }

prios-levels : (len k x : ℕ) (ps : List ℕ) → All IsLevel ps → All IsLevel (put_prios len k x ps)
prios-levels len k x ps h =
    let f : ℕ → ℕ = λ b. top_three (byte_of x b) in
    let put : All IsLevel (map f (range_with_len 0 len)) = All-map IsLevel f (range_with_len 0 len) (λ i d lt. top-level _) in
    All-append IsLevel (take k ps) _ (All-take IsLevel k ps h) (All-append IsLevel (map f (range_with_len 0 len)) _ put (All-drop IsLevel (k + len) ps h))

read-levels : (d : Dev) (w : Option Word) → HasLevels d → HasLevels (after_read d w)
read-levels d (Some Csr) h = record { interrupts = h.interrupts; tick = h.tick }
read-levels d w h = h

-- of a store among the devices those to IPR and SHPR3 put priorities
write-levels : (d : Dev) (w : Option Word) (len a x : ℕ) → HasLevels d → HasLevels (write_devices d w len a x)
write-levels d (Some Ipr) len a x h = record { interrupts = prios-levels len (a - 0xe000e400) x d.prio h.interrupts; tick = h.tick }
write-levels d (Some Shpr3) len a x h =
    record {
      interrupts = h.interrupts;
      tick = either IsLevel (nat_lt 0xe000ed23 (a + len)) (top_three (byte_of x (0xe000ed23 - a))) d.tick_prio (top-level _) h.tick;
    }
write-levels d (Some (Fixed y)) len a x h = h
write-levels d (Some w) len a x h = record { interrupts = h.interrupts; tick = h.tick }
write-levels d None len a x h = h

loads-levels : (len n a : ℕ) (s : Seen) → HasLevels s.devices → HasLevels (after_loads len n a s).devices
loads-levels len zero a s h = h
loads-levels len (suc n) a s h = loads-levels len n (behind len a) (after_load a s) (read-levels s.devices (device_word a) h)

stores-levels : (marks : Bool) (len a : ℕ) (xs : List ℕ) (s : Seen) → HasLevels s.devices → HasLevels (after_stores marks len a xs s).devices
stores-levels marks len a [] s h = h
stores-levels marks len a (x ∷ xs) s h =
    stores-levels marks len (behind len a) xs (after_store marks len a x s)
    (either HasLevels (lies_in_sram len a) s.devices (write_devices s.devices (device_word a) len a x) h (write-levels s.devices (device_word a) len a x h))

module _ {E : Type 0} (R : Runner E) where
  abbrev HasLevelsDone : Done → Type 0
  HasLevelsDone d = HasLevels d.seen.devices

  run-levels : (d : Does) (s : Seen) → HasLevels s.devices → IfOk (run R d s) HasLevelsDone
  run-levels (Ends w q) s h = h
  run-levels (Faults k a) s h = tt
  run-levels (Loads how len n a f) s h =
      let xs = words len n a s in
      let t = after_loads len n a s in
      if_done HasLevelsDone (first_stop R how false len n a s) (run R (f xs) t) (run-levels (f xs) t (loads-levels len n a s h))
  run-levels (Stores how len a xs d) s h =
      let t = after_stores R.marks len a xs s in
      if_done HasLevelsDone (first_stop R how true len (length xs) a s) (run R d t) (run-levels d t (stores-levels R.marks len a xs s h))

  finish-levels : (bytes : ℕ) (x : Result Done E) → IfOk x HasLevelsDone → IfOk (finish bytes x) (λ y. HasLevels y.seen.devices)
  finish-levels bytes (Ok d) h = h
  finish-levels bytes (Err e) h = tt

  pub step-levels : (i : Instr) (r : Regs) (s : Seen) → HasLevels s.devices → IfOk (step R i r s) (λ x. HasLevels x.seen.devices)
  step-levels i r s h = finish-levels (width_of i) (run R (in_block i r) s) (run-levels (in_block i r) s h)
