use Rattle.std.proofs.Common.{length}
use Rattle.hm_sched.proofs.tick_text.+read_numbers.Given as goal

abbrev pub decreases-read_numbers : goal.decreases-read_numbers
decreases-read_numbers l = length l.words.now
