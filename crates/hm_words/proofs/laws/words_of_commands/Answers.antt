use Rattle.hm_words.proofs.Forms.{form_of-run, form_of-is_run, form_of-seq, form_of-is_seq, form_of-dis, form_of-is_dis, form_of-asm, form_of-is_asm}
use Rattle.hm_words.proofs.Forms.{form_of-soak, form_of-is_soak, form_of-debug, form_of-is_debug, form_of-journal, form_of-is_journal, form_of-replay}
use Rattle.hm_words.proofs.Forms.{form_of-is_replay, form_of-migrate, form_of-is_migrate, form_of-plan, form_of-is_plan, form_of-hex, form_of-is_hex}
use Rattle.hm_words.proofs.Forms.{form_of-kernel, form_of-is_kernel}
use Rattle.hm_words.proofs.laws.words_of_commands.Goals as goal

pub returns-clause-runs : goal.returns-clause-runs
returns-clause-runs c = λ words image memory schedule. (form_of-is_run words image schedule memory, form_of-run words image schedule memory)

pub returns-clause-seqs : goal.returns-clause-seqs
returns-clause-seqs c = λ words image n. (form_of-is_seq words image n, form_of-seq words image n)

pub returns-clause-listings : goal.returns-clause-listings
returns-clause-listings c = λ words image lo hi. (form_of-is_dis words image lo hi, form_of-dis words image lo hi)

pub returns-clause-sources : goal.returns-clause-sources
returns-clause-sources c = λ words source out. (form_of-is_asm words source out, form_of-asm words source out)

pub returns-clause-soaks : goal.returns-clause-soaks
returns-clause-soaks c = λ words number. (form_of-is_soak words number, form_of-soak words number)

pub returns-clause-scripts : goal.returns-clause-scripts
returns-clause-scripts c = λ words image script schedule. (form_of-is_debug words image schedule script, form_of-debug words image schedule script)

pub returns-clause-journals : goal.returns-clause-journals
returns-clause-journals c = λ words image out schedule
    every. (form_of-is_journal words image schedule every out, form_of-journal words image schedule every out)

pub returns-clause-replays : goal.returns-clause-replays
returns-clause-replays c = λ words image text schedule tick. (form_of-is_replay words image schedule text tick, form_of-replay words image schedule text tick)

pub returns-clause-migrations : goal.returns-clause-migrations
returns-clause-migrations c = λ words image text out schedule. (form_of-is_migrate words image schedule text out, form_of-migrate words image schedule text out)

pub returns-clause-plans : goal.returns-clause-plans
returns-clause-plans c = λ words image out n. (form_of-is_plan words image n out, form_of-plan words image n out)

pub returns-clause-images : goal.returns-clause-images
returns-clause-images c = λ words image out. (form_of-is_hex words image out, form_of-hex words image out)

pub returns-clause-kernels : goal.returns-clause-kernels
returns-clause-kernels c = λ words source out. (form_of-is_kernel words source out, form_of-kernel words source out)
