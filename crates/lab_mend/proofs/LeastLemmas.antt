-- The page that is taken turns the fewest bits.
use Rattle.std.proofs.Common.{◌≡◌, inl, inr, ℕ, zero, suc, ◌+◌, ◌<◌, ◌≤◌, Bool, true, false, cond, List, [], ◌∷◌, length, refl, sym, ap, ◌∙◌, subst, arith}
use Rattle.std.specs.Prelude.{All, slice_get, nat_le, ◌&&◌, not}
use Rattle.std.specs.List.{filter, list_all, range_with_len, Contains}
use Rattle.std.proofs.lemmas.Bool.{cases_eq, cases_order, true≢false}
use Rattle.std.proofs.lemmas.List.Elements.{All-contains}
use Rattle.std.proofs.lemmas.Option.{same_Some}
use Rattle.page_layout.specs.declared.geometry.Geometry.{Geometry}
use Rattle.page_layout.specs.Page.{Page}
use Rattle.page_layout.specs.Sound.{is_erased_page}
use Rattle.page_layout.specs.Block.{is_programmed}
use Rattle.lab_dump.specs.PageBytes.{is_sound}
use Rattle.lab_mend.specs.declared.choice.Origin.TheVariants.{Sound, Conflict, Majority, Tried, Unsound}
use Rattle.lab_mend.specs.declared.trial.Trial.TheVariants.{Taken, Tied}
use Rattle.lab_mend.specs.Majority.{majority}
use Rattle.lab_mend.specs.Trial.{differing_bits, with_turned, is_tried, HasBytes}
use Rattle.lab_mend.specs.Choice.{Choice, is_same, zero_page, chosen, by_found, by_turns, by_trial, by_programmed, by_majority, by_sound, choice, IsFirstProgrammed, IsSoundBetween, IsLeast, LeastLaw}
use Rattle.lab_mend.proofs.TrialLemmas.{alone, either_in, in_turned, few_turned, turned_zero, bits_once, bit_together}
use Rattle.lab_mend.proofs.ChoiceLemmas.{IsKept, none_kept, turned_found, kept_in, all_same, same_page, first_kept, first_programmed}

-- ---- the first page that is not erased

is_earlier : (pages : List Page) (a b : Page) (h : IsFirstProgrammed pages a) (k : IsFirstProgrammed pages b) → h.place < k.place → ⊥
is_earlier pages a b h k l = true≢false (sym (k.before h.place a l h.at) ∙ h.programmed)

one_first : (pages : List Page) (a b : Page) → IsFirstProgrammed pages a → IsFirstProgrammed pages b → a ≡ b
one_first pages a b h k = elim (cases_order h.place k.place) [
  | inl same ↦ same_Some a b (sym h.at ∙ (ap (slice_get pages) same ∙ k.at))
  | inr (inl l) ↦ absurd (is_earlier pages a b h k l)
  | inr (inr l) ↦ absurd (is_earlier pages b a k h l)
]

programmed_not : (b : Bool) → b ≡ false → not b ≡ true
programmed_not b e = ap not e

-- ---- what a row was tried with

-- the first page that is not erased and the others, all of bytes
record IsRow (pages : List Page) (p : Page) (more : List Page) : Type 0 where
  are : filter is_programmed pages ≡ p ∷ more
  bytes : HasBytes p
  unsound : is_sound p ≡ false

-- a sound page that agrees with the readings is one of those that are tried
to_try : (pages : List Page) (p q : Page) (more : List Page) (n : ℕ) → IsRow pages p more → HasBytes q → IsSoundBetween pages p q n → IsKept is_sound (with_turned p (differing_bits p (p ∷ more)) n) q
to_try pages p q more n row bytes found = record {
  in_list = in_turned (differing_bits p (p ∷ more)) p q n (bits_once p (p ∷ more)) found.between.body_size found.between.spare_size row.bytes bytes
      (λ k l away. found.between.agrees k l (λ r at programmed.
      bit_together p r (p ∷ more) k l away (subst (λ xs. Contains xs r) row.are (kept_in is_programmed pages r at (programmed_not (is_erased_page r) programmed)))))
      found.turns;
  passes = found.sound;
}

tried_few : (pages : List Page) (p q : Page) (more : List Page) (n : ℕ) → IsRow pages p more → HasBytes q → IsSoundBetween pages p q n → n ≤ length (differing_bits p (p ∷ more))
tried_few pages p q more n row bytes found = few_turned (differing_bits p (p ∷ more)) p q n (to_try pages p q more n row bytes found).in_list

-- with no bit turned it is the first page, which is not sound
tried_some : (pages : List Page) (p q : Page) (more : List Page) (n : ℕ) → IsRow pages p more → HasBytes q → IsSoundBetween pages p q n → 1 ≤ n
tried_some pages p q more zero row bytes found =
    let there : Contains (p ∷ []) q = subst (λ xs. Contains xs q) (turned_zero p (differing_bits p (p ∷ more))) (to_try pages p q more 0 row bytes found).in_list in
    absurd (true≢false (sym found.sound ∙ (ap is_sound (sym (alone p q there)) ∙ row.unsound)))
tried_some pages p q more (suc n) row bytes found = omega arith

-- none of the sound pages that agree with the readings has fewer bits turned
abbrev NoneBelow : List Page → Page → ℕ → Type 0
NoneBelow pages p n = (q : Page) (m : ℕ) → HasBytes q → IsSoundBetween pages p q m → n ≤ m

-- nor so many, where none of these is sound
none_here : (pages : List Page) (p : Page) (more : List Page) (n : ℕ) → IsRow pages p more → filter is_sound (with_turned p (differing_bits p (p ∷ more)) n) ≡ [] → NoneBelow pages p n → NoneBelow pages p (n + 1)
none_here pages p more n row none below q m bytes found = elim (cases_eq m n) [
  | inl same ↦
      let kept = to_try pages p q more m row bytes found in
      let at : Contains (filter is_sound (with_turned p (differing_bits p (p ∷ more)) m)) q = kept_in is_sound (with_turned p (differing_bits p (p ∷ more)) m) q kept.in_list kept.passes in
      absurd (let at_none : Contains [] q = subst (λ xs. Contains xs q) (ap (λ k. filter is_sound (with_turned p (differing_bits p (p ∷ more)) k)) same ∙ none) at in let l = at_none.1 in omega arith)
  | inr ne ↦ (let l = below q m bytes found in omega arith)
]

-- the one sound page with so many bits turned is the page that is found with so many
the_one : (pages : List Page) (p q r : Page) (more others : List Page) (n : ℕ) → IsRow pages p more → filter is_sound (with_turned p (differing_bits p (p ∷ more)) n) ≡ q ∷ others → list_all (is_same q) others ≡ true
    → length q.body ≡ length p.body → HasBytes r → IsSoundBetween pages p r n → r ≡ q
the_one pages p q r more others n row is all size bytes found =
    let kept = to_try pages p r more n row bytes found in
    let at : Contains (q ∷ others) r = subst (λ xs. Contains xs r) is (kept_in is_sound (with_turned p (differing_bits p (p ∷ more)) n) r kept.in_list kept.passes) in
    elim (either_in q r others at) [
      | inl same ↦ sym same
      | inr later ↦ sym (same_page q r (size ∙ sym found.between.body_size) (all_same q r others all later))
    ]

found_least : (pages : List Page) (p : Page) (more : List Page) (n : ℕ) → IsFirstProgrammed pages p → IsRow pages p more → NoneBelow pages p n → (sound : List Page) → filter is_sound (with_turned p (differing_bits p (p ∷ more)) n) ≡ sound
    → (next : Choice) → (NoneBelow pages p (n + 1) → IsLeast pages next.its next.origin)
    → IsLeast pages (by_found p n (length (differing_bits p (p ∷ more))) sound next).its (by_found p n (length (differing_bits p (p ∷ more))) sound next).origin
found_least pages p more n first row below [] is next later = later (none_here pages p more n row is below)
found_least pages p more n first row below (q ∷ others) is next later = by (list_all (is_same q) others) refl
  where
    d : ℕ
    d = length (differing_bits p (p ∷ more))

    its : IsSoundBetween pages p q n
    its = turned_found pages p q more n row.are (first_kept is_sound (with_turned p (differing_bits p (p ∷ more)) n) q others is)

    by : (b : Bool) → list_all (is_same q) others ≡ b → IsLeast pages (cond b (chosen q (Tried (Taken n d))) (chosen p (Tried (Tied n d)))).its (cond b (chosen q (Tried (Taken n d))) (chosen p (Tried (Tied n d)))).origin
    by true all = λ a r m is_first bytes found.
        let mine : IsSoundBetween pages p r m = subst (λ x. IsSoundBetween pages x r m) (one_first pages a p is_first first) found in
        elim (cases_eq m n) [
          | inl same ↦ inl (the_one pages p q r more others n row is all its.between.body_size bytes (subst (IsSoundBetween pages p r) same mine))
          | inr ne ↦ inr (let l = below r m bytes mine in omega arith)
        ]
    by false apart = below

turns_least : (pages : List Page) (p : Page) (more : List Page) (n size : ℕ) → n + size ≡ length (differing_bits p (p ∷ more)) + 1 → IsFirstProgrammed pages p → IsRow pages p more → NoneBelow pages p n
    → IsLeast pages (by_turns p (differing_bits p (p ∷ more)) (range_with_len n size)).its (by_turns p (differing_bits p (p ∷ more)) (range_with_len n size)).origin
unfolding by_turns
turns_least pages p more n zero e first row below = λ q m bytes found. (let low = below q m bytes found in let high = tried_few pages p q more m row bytes found in omega arith)
turns_least pages p more n (suc size) e first row below =
    found_least pages p more n first row below (filter is_sound (with_turned p (differing_bits p (p ∷ more)) n)) refl (by_turns p (differing_bits p (p ∷ more)) (range_with_len (n + 1) size))
    (λ next. turns_least pages p more (n + 1) size (omega arith) first row next)

trial_least : (pages : List Page) (p : Page) (more : List Page) → IsFirstProgrammed pages p → IsRow pages p more → IsLeast pages (by_trial p (differing_bits p (p ∷ more))).its (by_trial p (differing_bits p (p ∷ more))).origin
unfolding by_trial
trial_least pages p more first row = by (is_tried (length bits))
  where
    bits : List ℕ
    bits = differing_bits p (p ∷ more)

    by : (b : Bool) → IsLeast pages (cond b (by_turns p bits (range_with_len 1 (length bits))) (chosen p Unsound)).its (cond b (by_turns p bits (range_with_len 1 (length bits))) (chosen p Unsound)).origin
    by true = turns_least pages p more 1 (length bits) (omega arith) first row (λ q m bytes found. tried_some pages p q more m row bytes found)
    by false = tt

-- ---- the law

programmed_least : (g : Geometry) (pages programmed : List Page) → All HasBytes pages → filter is_sound pages ≡ [] → filter is_programmed pages ≡ programmed
    → IsLeast pages (by_programmed g pages programmed).its (by_programmed g pages programmed).origin
programmed_least g pages [] bytes none e = tt
programmed_least g pages (p ∷ more) bytes none e =
    let kept : IsKept is_programmed pages p = first_kept is_programmed pages p more e in
    trial_least pages p more (first_programmed pages p more e) (record {
      are = e;
      bytes = All-contains HasBytes pages p bytes kept.in_list;
      unsound = All-contains (λ q. is_sound q ≡ false) pages p (none_kept is_sound pages none) kept.in_list;
    })

majority_least : (g : Geometry) (pages : List Page) → All HasBytes pages → filter is_sound pages ≡ [] → IsLeast pages (by_majority g pages).its (by_majority g pages).origin
unfolding by_majority
majority_least g pages bytes none = by (nat_le 3 (length pages) && is_sound (majority g pages))
  where
    by : (b : Bool) → IsLeast pages (cond b (chosen (majority g pages) Majority) (by_programmed g pages (filter is_programmed pages))).its (cond b (chosen (majority g pages) Majority) (by_programmed g pages (filter is_programmed pages))).origin
    by true = tt
    by false = programmed_least g pages (filter is_programmed pages) bytes none refl

pub least_law : LeastLaw
unfolding choice
least_law g pages bytes = over (filter is_sound pages) refl
  where
    either : (p : Page) (b : Bool) → IsLeast pages (cond b (chosen p Sound) (chosen (zero_page g) Conflict)).its (cond b (chosen p Sound) (chosen (zero_page g) Conflict)).origin
    either p true = tt
    either p false = tt

    over : (sound : List Page) → filter is_sound pages ≡ sound → IsLeast pages (by_sound g pages sound).its (by_sound g pages sound).origin
    over [] is = majority_least g pages bytes is
    over (p ∷ more) is = either p (list_all (is_same p) more)
