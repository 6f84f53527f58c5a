-- Which bit of a page is mended.
use Rattle.std.proofs.Common.{◌≡◌, inl, inr, ℕ, zero, suc, ◌+◌, ◌<◌, ◌≤◌, Bool, true, false, cond, List, length, get_or, Option, Some, None, refl, sym, ap, ◌∙◌, subst, arith}
use Rattle.std.specs.Prelude.{is_some, not, ◌&&◌, nat_lt}
use Rattle.std.specs.List.{range_with_len, position, position_or_len}
use Rattle.std.proofs.lemmas.Bool.{and_parts, and_from, cases_Bool, cases_eq}
use Rattle.std.proofs.lemmas.Option.{same_Some}
use Rattle.std.proofs.lemmas.List.FromFn.{length-range_with_len, get_or-range_with_len}
use Rattle.std.proofs.lemmas.List.Sums.{position_or_len_is}
use Rattle.std.proofs.lemmas.List.Quantifiers.{position-Some}
use Rattle.std.proofs.lemmas.Bool.Decides.{nat_tests}
use Rattle.page_layout.specs.declared.record.Record.{Record}
use Rattle.page_layout.specs.Page.{Page}
use Rattle.page_layout.specs.Sound.{record_of, is_erased_page}
use Rattle.page_layout.specs.Block.{is_broken}
use Rattle.lab_dump.specs.PageBytes.{is_sound, page_from_bytes, bits_of, bit_count}
use Rattle.lab_mend.specs.Bits.{turned_bytes, with_bit_turned}
use Rattle.lab_mend.specs.declared.mending.Made.{Made}
use Rattle.lab_mend.specs.declared.mending.Made.TheVariants.{Sound, Erased}
use Rattle.lab_mend.specs.declared.mending.Turned.{Turned}
use Rattle.lab_mend.specs.Mend.{lowest_bit, erased_bit, first_turn, mend_of, Makes, IsMend, IsMendedAs, MendLaw}
use Rattle.lab_mend.proofs.BitLemmas.{count_page, turned_page}

-- ---- the first number that passes

first_is : (f : ℕ → Bool) (n k : ℕ) → k < n → f k ≡ true → ((j : ℕ) → j < k → f j ≡ false) → position f (range_with_len 0 n) ≡ Some k
first_is f n k within here before =
    let xs : List ℕ = range_with_len 0 n in
    let size : length xs ≡ n = length-range_with_len 0 n in
    let at : (j : ℕ) → j < n → get_or xs j 0 ≡ j = λ j l. get_or-range_with_len 0 n j 0 l ∙ omega arith in
    let place : position_or_len f xs ≡ k = position_or_len_is f xs k 0 (omega arith) (λ j l. ap f (at j (omega arith)) ∙ before j l) (λ l. ap f (at k within) ∙ here) in
    let test : nat_lt (position_or_len f xs) (length xs) ≡ true = grind (arith, nat_tests) in
    ap (λ b. cond b (Some (position_or_len f xs)) None) test ∙ ap Some place

first_none : (f : ℕ → Bool) (n : ℕ) → ((j : ℕ) → j < n → f j ≡ false) → position f (range_with_len 0 n) ≡ None
first_none f n none =
    let xs : List ℕ = range_with_len 0 n in
    let size : length xs ≡ n = length-range_with_len 0 n in
    let at : (j : ℕ) → j < n → get_or xs j 0 ≡ j = λ j l. get_or-range_with_len 0 n j 0 l ∙ omega arith in
    let place : position_or_len f xs ≡ n = position_or_len_is f xs n 0 (omega arith) (λ j l. ap f (at j l) ∙ none j l) (λ l. absurd (omega arith)) in
    let test : nat_lt (position_or_len f xs) (length xs) ≡ false = grind (arith, nat_tests) in
    ap (λ b. cond b (Some (position_or_len f xs)) None) test

-- it is below the number, it passes, and none before it does
pub record IsFirst (f : ℕ → Bool) (n k : ℕ) : Type 0 where
  pub within : k < n
  pub here : f k ≡ true
  pub before : (j : ℕ) → j < k → f j ≡ false

first_from : (f : ℕ → Bool) (n k : ℕ) → position f (range_with_len 0 n) ≡ Some k → IsFirst f n k
first_from f n k e =
    let xs : List ℕ = range_with_len 0 n in
    let size : length xs ≡ n = length-range_with_len 0 n in
    let at : (j : ℕ) → j < n → get_or xs j 0 ≡ j = λ j l. get_or-range_with_len 0 n j 0 l ∙ omega arith in
    let h = position-Some f xs k 0 e in
    let inside : k < n = (let l = h.0 in omega arith) in
    record { within = inside; here = ap f (sym (at k inside)) ∙ h.1; before = λ j l. ap f (sym (at j (omega arith))) ∙ h.2 j l }

-- none passes before the end where there is no first one
none_from : (f : ℕ → Bool) (n : ℕ) → position f (range_with_len 0 n) ≡ None → (j : ℕ) → j < n → f j ≡ false
none_from f n e j l = by_steps n (omega arith) j l
  where
    -- below each number none passes, since the first that did would be found
    by_steps : (m : ℕ) → m ≤ n → (i : ℕ) → i < m → f i ≡ false
    by_steps zero le i less = absurd (omega arith)
    by_steps (suc m) le i less = elim (cases_eq i m) [
      | inl same ↦ subst (λ k. f k ≡ false) (sym same) (elim (cases_Bool (f m)) [
        | inl passes ↦ absurd (let found : position f (range_with_len 0 n) ≡ Some m = first_is f n m (omega arith) passes (λ k k_less. by_steps m (omega arith) k k_less) in let clash : Some m ≡ None = sym found ∙ e in cc)
        | inr fails ↦ fails
      ])
      | inr ne ↦ by_steps m (omega arith) i (omega arith)
    ]

-- ---- the lowest bit

pub lowest_is : (p : Page) (k : ℕ) → k < bit_count p → is_sound (with_bit_turned p k) ≡ true → ((j : ℕ) → j < k → is_sound (with_bit_turned p j) ≡ false) → lowest_bit p ≡ Some k
unfolding lowest_bit
lowest_is p k within here before = first_is (λ j. is_sound (with_bit_turned p j)) (bit_count p) k within here before

pub lowest_none : (p : Page) → ((j : ℕ) → j < bit_count p → is_sound (with_bit_turned p j) ≡ false) → lowest_bit p ≡ None
unfolding lowest_bit
lowest_none p none = first_none (λ j. is_sound (with_bit_turned p j)) (bit_count p) none

pub lowest_from : (p : Page) (k : ℕ) → lowest_bit p ≡ Some k → IsFirst (λ j. is_sound (with_bit_turned p j)) (bit_count p) k
unfolding lowest_bit
lowest_from p k e = first_from (λ j. is_sound (with_bit_turned p j)) (bit_count p) k e

pub lowest_nowhere : (p : Page) → lowest_bit p ≡ None → (j : ℕ) → j < bit_count p → is_sound (with_bit_turned p j) ≡ false
unfolding lowest_bit
lowest_nowhere p e = none_from (λ j. is_sound (with_bit_turned p j)) (bit_count p) e

-- ---- the bit that leaves a page erased

pub erased_is : (p : Page) (k : ℕ) → k < bit_count p → is_erased_page (with_bit_turned p k) ≡ true → ((j : ℕ) → j < k → is_erased_page (with_bit_turned p j) ≡ false) → erased_bit p ≡ Some k
unfolding erased_bit
erased_is p k within here before = first_is (λ j. is_erased_page (with_bit_turned p j)) (bit_count p) k within here before

pub erased_none : (p : Page) → ((j : ℕ) → j < bit_count p → is_erased_page (with_bit_turned p j) ≡ false) → erased_bit p ≡ None
unfolding erased_bit
erased_none p none = first_none (λ j. is_erased_page (with_bit_turned p j)) (bit_count p) none

pub erased_from : (p : Page) (k : ℕ) → erased_bit p ≡ Some k → IsFirst (λ j. is_erased_page (with_bit_turned p j)) (bit_count p) k
unfolding erased_bit
erased_from p k e = first_from (λ j. is_erased_page (with_bit_turned p j)) (bit_count p) k e

-- ---- tests of pages

pub none_of : (o : Option Record) → is_some o ≡ false → o ≡ None
none_of None e = refl
none_of (Some r) e = absurd (cc)

none_is : (o : Option Record) → o ≡ None → is_some o ≡ false
none_is o e = ap is_some e

not_true : (b : Bool) → not b ≡ true → b ≡ false
not_true true e = absurd (cc)
not_true false e = refl

-- the page is neither erased nor sound
pub record IsBroken (p : Page) : Type 0 where
  pub unsound : record_of p ≡ None
  pub unerased : is_erased_page p ≡ false

pub broken_from : (p : Page) → is_broken p ≡ true → IsBroken p
broken_from p e =
    let both = and_parts (not (is_erased_page p)) (not (is_some (record_of p))) e in
    record { unsound = none_of (record_of p) (not_true (is_some (record_of p)) both.1); unerased = not_true (is_erased_page p) both.0 }

broken_is : (p : Page) → record_of p ≡ None → is_erased_page p ≡ false → is_broken p ≡ true
broken_is p unsound unerased = and_from (not (is_erased_page p)) (not (is_some (record_of p))) (ap not unerased) (ap (λ o. not (is_some o)) unsound)

pub sound_whole : (p : Page) → is_sound p ≡ true → is_broken p ≡ false
sound_whole p e = ap (λ b. not (is_erased_page p) && not b) e ∙ both (is_erased_page p)
  where
    both : (b : Bool) → (not b && false) ≡ false
    both true = refl
    both false = refl

erased_whole : (p : Page) → is_erased_page p ≡ true → is_broken p ≡ false
erased_whole p e = ap (λ b. not b && not (is_some (record_of p))) e

-- ---- the mend

pub mend_broken : (p : Page) → is_broken p ≡ true → mend_of p ≡ first_turn (lowest_bit p) (erased_bit p)
unfolding mend_of
mend_broken p e = ap (λ b. cond b (first_turn (lowest_bit p) (erased_bit p)) None) e

pub mend_whole : (p : Page) → is_broken p ≡ false → mend_of p ≡ None
unfolding mend_of
mend_whole p e = ap (λ b. cond b (first_turn (lowest_bit p) (erased_bit p)) None) e

no_mend : {t : Turned} {o : Option Turned} → o ≡ None → o ≡ Some t → ⊥
no_mend a b = cc

no_first : (low out : Option ℕ) → first_turn low out ≡ None → low ≡ None
no_first (Some k) out e = absurd (cc)
no_first None out e = refl

-- of a broken page that is not mended no single bit makes it sound
pub unmended : (p : Page) → is_broken p ≡ true → mend_of p ≡ None → (j : ℕ) → j < bit_count p → is_sound (with_bit_turned p j) ≡ false
unmended p is e j l = lowest_nowhere p (no_first (lowest_bit p) (erased_bit p) (sym (mend_broken p is) ∙ e)) j l

-- what is turned first is a mend of a broken page
first_mends : (p : Page) (t : Turned) → IsBroken p → (low out : Option ℕ) → lowest_bit p ≡ low → erased_bit p ≡ out → first_turn low out ≡ Some t → IsMend p t
first_mends p t broken (Some k) out low_is out_is e =
    let first = lowest_from p k low_is in
    let same : record { bit = k; made = Sound } ≡ t = same_Some (record { bit = k; made = Sound }) t e in
    subst (IsMend p) same (record {
      unsound = broken.unsound;
      unerased = broken.unerased;
      within = first.within;
      makes = (first.here, λ j l. none_of (record_of (with_bit_turned p j)) (first.before j l));
    })
first_mends p t broken None (Some k) low_is out_is e =
    let first = erased_from p k out_is in
    let same : record { bit = k; made = Erased } ≡ t = same_Some (record { bit = k; made = Erased }) t e in
    subst (IsMend p) same (record {
      unsound = broken.unsound;
      unerased = broken.unerased;
      within = first.within;
      makes = (λ j l. none_of (record_of (with_bit_turned p j)) (lowest_nowhere p low_is j l), first.here, first.before);
    })
first_mends p t broken None None low_is out_is e = absurd (cc)

mend_from : (p : Page) (t : Turned) → mend_of p ≡ Some t → IsMend p t
mend_from p t e = by (is_broken p) refl
  where
    by : (b : Bool) → is_broken p ≡ b → IsMend p t
    by true is = first_mends p t (broken_from p is) (lowest_bit p) (erased_bit p) refl refl (sym (mend_broken p is) ∙ e)
    by false is = absurd (no_mend (mend_whole p is) e)

-- a mend is what is turned first
turn_is : (p : Page) (k : ℕ) (m : Made) → k < bit_count p → Makes p m k → first_turn (lowest_bit p) (erased_bit p) ≡ Some (record { bit = k; made = m })
turn_is p k Sound within makes = ap (λ o. first_turn o (erased_bit p)) (lowest_is p k within makes.0 (λ j l. none_is (record_of (with_bit_turned p j)) (makes.1 j l)))
turn_is p k Erased within makes =
    ap (λ o. first_turn o (erased_bit p)) (lowest_none p (λ j l. none_is (record_of (with_bit_turned p j)) (makes.0 j l))) ∙ ap (first_turn None) (erased_is p k within makes.1 makes.2)

mend_is : (p : Page) (t : Turned) → IsMend p t → mend_of p ≡ Some t
mend_is p t h = mend_broken p (broken_is p h.unsound h.unerased) ∙ turn_is p t.bit t.made h.within h.makes

pub mend_law : MendLaw
mend_law p t = (mend_from p t, mend_is p t)

-- ---- the mended page

-- what the word says of the page with the bit turned
pub made_by : (p : Page) (k : ℕ) (m : Made) → Makes p m k → IsMendedAs m (with_bit_turned p k)
made_by p k Sound h = h.0
made_by p k Erased h = h.1

pub made_whole : (m : Made) (q : Page) → IsMendedAs m q → is_broken q ≡ false
made_whole Sound q h = sound_whole q h
made_whole Erased q h = erased_whole q h

-- ---- by the bytes of a page, of which the first so many are its data area

-- what is asked of the page that was, with a bit turned
pub asked_turned : (test : Page → Bool) (size : ℕ) (bytes now turned : List ℕ) (k : ℕ) (answer b : Bool) → now ≡ bytes → turned ≡ turned_bytes now k → answer ≡ test (page_from_bytes size turned) → answer ≡ b → test (page_from_bytes size (turned_bytes bytes k)) ≡ b
asked_turned test size bytes now turned k answer b same once is e = ap (λ x. test (page_from_bytes size (turned_bytes x k))) (sym same) ∙ (ap (λ x. test (page_from_bytes size x)) (sym once) ∙ (sym is ∙ e))

-- no bit passes so far, this one either
pub none_more : (test : Page → Bool) (size : ℕ) (bytes : List ℕ) (k : ℕ) → test (page_from_bytes size (turned_bytes bytes k)) ≡ false → ((j : ℕ) → j < k → test (page_from_bytes size (turned_bytes bytes j)) ≡ false) → (j : ℕ) → j < k + 1 → test (page_from_bytes size (turned_bytes bytes j)) ≡ false
none_more test size bytes k here before j l = elim (cases_eq j k) [ inl e ↦ subst (λ n. test (page_from_bytes size (turned_bytes bytes n)) ≡ false) (sym e) here | inr ne ↦ before j (omega arith) ]

pub found_in : (size : ℕ) (bytes : List ℕ) (k : ℕ) → size ≤ length bytes → k < bits_of bytes → is_sound (page_from_bytes size (turned_bytes bytes k)) ≡ true
    → ((j : ℕ) → j < k → is_sound (page_from_bytes size (turned_bytes bytes j)) ≡ false) → lowest_bit (page_from_bytes size bytes) ≡ Some k
found_in size bytes k room within here before =
    lowest_is (page_from_bytes size bytes) k (subst (λ n. k < n) (sym (count_page size bytes)) within) (ap is_sound (turned_page size bytes k room) ∙ here) (λ j l. ap is_sound (turned_page size bytes j room) ∙ before j l)

pub none_in : (size : ℕ) (bytes : List ℕ) → size ≤ length bytes → ((j : ℕ) → j < bits_of bytes → is_sound (page_from_bytes size (turned_bytes bytes j)) ≡ false) → lowest_bit (page_from_bytes size bytes) ≡ None
none_in size bytes room none = lowest_none (page_from_bytes size bytes) (λ j l. ap is_sound (turned_page size bytes j room) ∙ none j (subst (λ n. j < n) (count_page size bytes) l))

pub erased_in : (size : ℕ) (bytes : List ℕ) (k : ℕ) → size ≤ length bytes → k < bits_of bytes → is_erased_page (page_from_bytes size (turned_bytes bytes k)) ≡ true
    → ((j : ℕ) → j < k → is_erased_page (page_from_bytes size (turned_bytes bytes j)) ≡ false) → erased_bit (page_from_bytes size bytes) ≡ Some k
erased_in size bytes k room within here before =
    erased_is (page_from_bytes size bytes) k (subst (λ n. k < n) (sym (count_page size bytes)) within) (ap is_erased_page (turned_page size bytes k room) ∙ here) (λ j l. ap is_erased_page (turned_page size bytes j room) ∙ before j l)

pub unerased_in : (size : ℕ) (bytes : List ℕ) → size ≤ length bytes → ((j : ℕ) → j < bits_of bytes → is_erased_page (page_from_bytes size (turned_bytes bytes j)) ≡ false) → erased_bit (page_from_bytes size bytes) ≡ None
unerased_in size bytes room none = erased_none (page_from_bytes size bytes) (λ j l. ap is_erased_page (turned_page size bytes j room) ∙ none j (subst (λ n. j < n) (count_page size bytes) l))
