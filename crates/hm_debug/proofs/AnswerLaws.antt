-- Answers: one text for a script, which grows with it; and lines of the listing.
use Rattle.std.proofs.Common.{◌≡◌, ℕ, zero, suc, ap, arith, refl, sym, ◌∙◌, List, [], ◌∷◌, ◌++◌, append_assoc, take}
use Rattle.hm_base.specs.Image.{flash_size}
use Rattle.hm_codes.specs.Listing.{IsListing, Listing}
use Rattle.hm_debug.proofs.Flashes.{entry_is, lines_end, lines_more}
use Rattle.hm_debug.proofs.Longer.{goes_on}
use Rattle.hm_debug.proofs.ScriptLaws.{one_script}
use Rattle.hm_debug.specs.Answers.{IsAnswered, answer, answers}
use Rattle.hm_debug.specs.Films.{Film}
use Rattle.hm_debug.specs.Lines.{after_entry, listing_lines}
use Rattle.hm_debug.specs.Scripts.{IsScript}
use Rattle.hm_debug.specs.declared.command.Command.{Command}
use Rattle.hm_listing.specs.Listings.{AreEntries, Entry, entry_line, lines_from}

pub some_answer : (f : Film) (text : List ℕ) (cs : List Command) → IsScript text cs → (x : List ℕ) × IsAnswered f text x
some_answer f text cs script = (answers f cs 0, record { commands = cs; script = script; is = refl })

pub one_answer : (f : Film) (text x y : List ℕ) → IsAnswered f text x → IsAnswered f text y → x ≡ y
one_answer f text x y p q = p.is ∙ ap (λ (cs : List Command). answers f cs 0) (one_script text p.commands q.commands p.script q.script) ∙ sym q.is

answers_grow : (f : Film) (cs ds : List Command) (t : ℕ) → (more : List ℕ) × (answers f (cs ++ ds) t ≡ answers f cs t ++ more)
answers_grow f [] ds t = (answers f ds t, refl)
answers_grow f (c ∷ cs) ds t =
    let rest = answers_grow f cs ds (answer f c t).place in
    (rest.0, ap (λ (x : List ℕ). (answer f c t).text ++ x) rest.1 ∙ sym (append_assoc (answer f c t).text (answers f cs (answer f c t).place) rest.0))

pub answers_begin : (f : Film) (text more x y : List ℕ) → IsAnswered f text x → IsAnswered f (text ++ more) y → (rest : List ℕ) × (y ≡ x ++ rest)
answers_begin f text more x y p q =
    let ds = goes_on text more p.commands q.commands p.script q.script in
    let rest = answers_grow f p.commands ds.0 0 in
    (rest.0, q.is ∙ ap (λ (cs : List Command). answers f cs 0) ds.1 ∙ rest.1 ∙ ap (λ (t : List ℕ). t ++ rest.0) (sym p.is))

-- LINES
pub lines_listed : (flash : ℕ → ℕ) (listing : Listing) (n a : ℕ) (es : List Entry) → IsListing flash listing → AreEntries flash a flash_size es
    → listing_lines flash listing a n ≡ lines_from a (take n es)
lines_listed flash listing zero a es listed are = refl
lines_listed flash listing (suc n) a [] listed are = lines_end flash listing a (suc n) (let is : a ≡ flash_size = are in omega (arith, is))
lines_listed flash listing (suc n) a (e ∷ es) listed are =
    let same = entry_is flash listing a e listed are.1 in
    lines_more flash listing a n are.0
    ∙ (λ i. entry_line a (same i) ++ listing_lines flash listing (after_entry a (same i)) n)
    ∙ ap (λ (x : List ℕ). entry_line a e ++ x) (lines_listed flash listing n (after_entry a e) es listed are.2)
