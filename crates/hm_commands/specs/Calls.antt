-- The calls on the host: those that are to be made, and how they went.
use Rattle.std.specs.Prelude.{◌≡◌, ◌⊎◌, ℕ, List, [], ◌∷◌, ◌++◌, length, map, Option, Some, None, Result, Ok, Err, nat_lt, if◌then◌else◌}
use Rattle.std.specs.FinMap.{get}
use Rattle.hm_host.specs.Host.{FileMap, Call, read, write, print, Made, answered, failed, Becomes, Changes, longest}
use Rattle.hm_host.specs.declared.host.HostErr.{HostErr}
use Rattle.hm_host.specs.declared.host.HostErr.TheVariants.{Failed, TooLarge, OutOfMemory}
use Rattle.hm_commands.specs.declared.status.Status.{Status}
use Rattle.hm_commands.specs.declared.status.Status.TheVariants.{Done, Ended, Usage, Refused, HostFault, NoMemory}

-- the others after a read, unless it was too large
abbrev pub after_read : Option (List ℕ) → List Call → List Call
after_read None others = others
after_read (Some bytes) others = if nat_lt longest (length bytes) then [] else others

-- the reads in order, up to the first that is too large
abbrev pub read_calls : FileMap → List (List ℕ) → List Call
read_calls F [] = []
read_calls F (name ∷ names) = read name ∷ after_read (get F name) (read_calls F names)

-- the write of the file that there may be
abbrev pub write_calls : Option (List ℕ × List ℕ) → List Call
write_calls None = []
write_calls (Some file) = write file.0 file.1 ∷ []

-- the print of the text that there may be
abbrev pub print_calls : Option (List ℕ) → List Call
print_calls None = []
print_calls (Some text) = print text ∷ []

-- calls that did not fail, after those made before
abbrev pub with_calls : List Call → List Made → List Made
with_calls calls made = made ++ map answered calls

-- the first of the calls were made, and none of these failed
pub record MadeSome (calls : List Call) (old new : List Made) : Type 0 where
  pub done : List Call
  pub left : List Call
  pub parts_are : calls ≡ done ++ left
  pub made_are : new ≡ with_calls done old

-- the first of the calls were made, and the last one made is the first that failed
pub record MadeToFault (calls : List Call) (old new : List Made) : Type 0 where
  pub done : List Call
  pub last : Call
  pub left : List Call
  pub parts_are : calls ≡ done ++ last ∷ left
  pub made_are : new ≡ with_calls done old ++ failed last ∷ []

-- how calls went: all were made, one failed, or memory ran out
pub data Way : Type 0 where
  to_end : Way
  to_fault : Way
  to_memory : Way

-- how the calls went, by the status of a command
abbrev pub way_of : Status → Way
way_of HostFault = to_fault
way_of NoMemory = to_memory
way_of Done = to_end
way_of Ended = to_end
way_of Usage = to_end
way_of Refused = to_end

-- how the calls went, by what a host answered to the last
abbrev pub answer_way : {T : Type 0} → Result T HostErr → Way
answer_way (Ok _) = to_end
answer_way (Err Failed) = to_fault
answer_way (Err TooLarge) = to_end
answer_way (Err OutOfMemory) = to_memory

-- Of the calls that were to be made these were: where the calls are told, by how they went. They are told no more only where memory ran out.
abbrev pub MakesCalls : List Call → Option (List Made) → Option (List Made) → Way → Type 0
MakesCalls calls old new to_end = Becomes (with_calls calls) old new
MakesCalls calls old new to_fault = Changes (MadeToFault calls) old new
MakesCalls calls old new to_memory = (new ≡ None) ⊎ Changes (MadeSome calls) old new

-- all these calls were made, where they are told still
abbrev pub MakesAll : List Call → Option (List Made) → Option (List Made) → Type 0
MakesAll calls old new = (before after : List Made) → old ≡ Some before → new ≡ Some after → after ≡ with_calls calls before
