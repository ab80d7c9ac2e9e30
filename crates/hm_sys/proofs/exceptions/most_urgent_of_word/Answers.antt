use Rattle.hm_sys.proofs.Picked.{word_passed}
use Rattle.hm_sys.proofs.exceptions.most_urgent_of_word.Goals as goal

pub returns-then-d-k-eq0 : goal.returns-then-d-k-eq0
returns-then-d-k-eq0 c = record { next = word_passed c.args.d.now c.args.current c.args.k c.args.best c.requires.word c.if-d-k-eq0.true c.requires.so_far }
