use Rattle.std.proofs.Common.{◌≡◌, ◌++◌, take}
use Rattle.std.specs.List.{flat_map}
use Rattle.helium_shake.specs.Texts.{file_line}
use Rattle.helium_shake.proofs.texts.add_file_lines.Given as goal

-- the lines so far
abbrev pub invariant-loop-file : goal.invariant-loop-file
invariant-loop-file l = l.out.items ≡ l.initial.out.items ++ flat_map (file_line l.schedule) (take l.file-index l.files)
