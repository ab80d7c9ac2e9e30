-- What stands in flash, and lines of the listing.
use Rattle.std.proofs.Common.{◌≡◌, ℕ, zero, suc, ◌+◌, ◌-◌, ◌<◌, ◌≤◌, ap, arith, refl, sym, ◌∙◌, Bool, true, false, cond, List, [], ◌++◌, append-nil}
use Rattle.std.proofs.Common.{append_assoc, nat_lt, Result, Ok, Err}
use Rattle.std.proofs.lemmas.Bool.Decides.{nat_tests}
use Rattle.hm_base.specs.Image.{flash_size}
use Rattle.hm_base.specs.declared.Fault.{Fault}
use Rattle.hm_codes.proofs.Unique.{unique}
use Rattle.hm_codes.specs.Listing.{IsFetched, IsListing, Listing, Stands, half_at}
use Rattle.hm_codes.proofs.Standing.{halves_within, some_halfword}
use Rattle.hm_debug.specs.Lines.{after_entry, entry_at, entry_of, listing_lines}
use Rattle.hm_isa.specs.Code.{halfwords}
use Rattle.hm_isa.specs.declared.Instr.{Instr}
use Rattle.hm_listing.proofs.LinesLeft.{IsAdded}
use Rattle.hm_listing.specs.Listings.{Entry, IsEntry, entry_line, half, shown}

-- WHAT A LISTING TELLS
entry_fetched : (flash : ℕ → ℕ) (a : ℕ) (x : Result Instr Fault) (i : Instr) → IsFetched flash a x → Stands flash a i → entry_of flash a x ≡ shown i
entry_fetched flash a (Ok j) i fetched stands = ap (λ (k : Instr). shown k) (unique flash a j i fetched stands)
entry_fetched flash a (Err e) i fetched stands = absurd (fetched.0 i stands)

entry_shown : (flash : ℕ → ℕ) (listing : Listing) (a : ℕ) (i : Instr) → IsListing flash listing → Stands flash a i → entry_at flash listing a ≡ shown i
entry_shown flash listing a i listed stands = entry_fetched flash a (listing a) i (listed.at a) stands

entry_missing : (flash : ℕ → ℕ) (a : ℕ) (x : Result Instr Fault) → IsFetched flash a x → ((i : Instr) → Stands flash a i → ⊥)
    → entry_of flash a x ≡ half (half_at flash a)
entry_missing flash a (Ok j) fetched none = absurd (none j fetched)
entry_missing flash a (Err e) fetched none = refl

entry_half : (flash : ℕ → ℕ) (listing : Listing) (a : ℕ) → IsListing flash listing → ((i : Instr) → Stands flash a i → ⊥)
    → entry_at flash listing a ≡ half (half_at flash a)
entry_half flash listing a listed none = entry_missing flash a (listing a) (listed.at a) none

-- at each address what stands there: a code lies in flash
pub entry_is : (flash : ℕ → ℕ) (listing : Listing) (a : ℕ) (e : Entry) → IsListing flash listing → IsEntry flash a flash_size e → entry_at flash listing a ≡ e
entry_is flash listing a (shown i) listed is = entry_shown flash listing a i listed is.0
entry_is flash listing a (half h) listed is =
    entry_half flash listing a listed
    (λ i stands. let past = is.0 i stands in let within = halves_within flash (halfwords i) a stands.code (some_halfword i) in omega (arith, past, within))
    ∙ ap (λ (x : ℕ). half x) (sym is.1)

-- LINES
in_flash : (a : ℕ) → a < flash_size → nat_lt a flash_size ≡ true
in_flash a below = grind (arith, nat_tests)

past_flash : (a : ℕ) → flash_size ≤ a → nat_lt a flash_size ≡ false
past_flash a past = grind (arith, nat_tests)

-- none at the end of flash
pub lines_end : (flash : ℕ → ℕ) (listing : Listing) (a n : ℕ) → flash_size ≤ a → listing_lines flash listing a n ≡ []
lines_end flash listing a zero past = refl
lines_end flash listing a (suc n) past =
    ap (λ (b : Bool). cond b (entry_line a (entry_at flash listing a) ++ listing_lines flash listing (after_entry a (entry_at flash listing a)) n) [])
    (past_flash a past)

-- one line of those that are left
pub lines_more : (flash : ℕ → ℕ) (listing : Listing) (a n : ℕ) → a < flash_size
    → listing_lines flash listing a (suc n)
    ≡ entry_line a (entry_at flash listing a) ++ listing_lines flash listing (after_entry a (entry_at flash listing a)) n
lines_more flash listing a n below =
    ap (λ (b : Bool). cond b (entry_line a (entry_at flash listing a) ++ listing_lines flash listing (after_entry a (entry_at flash listing a)) n) [])
    (in_flash a below)

-- a line was added, and the others are left
pub lines_on : (flash : ℕ → ℕ) (listing : Listing) (a count k next : ℕ) (out new all : List ℕ) → a < flash_size → k < count → IsListing flash listing
    → IsAdded flash a next flash_size out new → out ++ listing_lines flash listing a (count - k) ≡ all
    → new ++ listing_lines flash listing next (count - (k + 1)) ≡ all
lines_on flash listing a count k next out new all below few listed (e, is, text, goes) left =
    let n = count - (k + 1) in
    let one : count - k ≡ suc n = omega arith in
    let same = entry_is flash listing a e listed is in
    (λ i. text i ++ listing_lines flash listing (goes i) n)
    ∙ append_assoc out (entry_line a e) (listing_lines flash listing (after_entry a e) n)
    ∙ ap (λ (t : List ℕ). out ++ t) (sym (ap (listing_lines flash listing a) one ∙ lines_more flash listing a n below
    ∙ (λ i. entry_line a (same i) ++ listing_lines flash listing (after_entry a (same i)) n)))
    ∙ left

pub lines_done : (flash : ℕ → ℕ) (listing : Listing) (a n : ℕ) (out all : List ℕ) → flash_size ≤ a → out ++ listing_lines flash listing a n ≡ all → out ≡ all
lines_done flash listing a n out all past left = sym (append-nil out) ∙ ap (λ (t : List ℕ). out ++ t) (sym (lines_end flash listing a n past)) ∙ left

-- none are left
pub lines_none : (flash : ℕ → ℕ) (listing : Listing) (a count k : ℕ) (out all : List ℕ) → count ≤ k → out ++ listing_lines flash listing a (count - k) ≡ all
    → out ≡ all
lines_none flash listing a count k out all past left =
    let none : count - k ≡ 0 = omega arith in
    sym (append-nil out) ∙ ap (λ (n : ℕ). out ++ listing_lines flash listing a n) (sym none) ∙ left
