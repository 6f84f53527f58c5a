-- Which page is written of a row.
use Rattle.std.proofs.Common.{◌≡◌, ◌⊎◌, inl, inr, ℕ, zero, suc, ◌<◌, Bool, true, false, cond, List, [], ◌∷◌, length, get_or, map, replicate, Option, Some, None, refl, sym, ap, ◌∙◌, subst, arith}
use Rattle.std.specs.Prelude.{All, IsSome, is_some, nat_le, ◌&&◌, ◌==◌, not, slice_get}
use Rattle.std.specs.List.{filter, list_all, range_with_len, Contains}
use Rattle.std.proofs.lemmas.Bool.{and_parts, and_cases, leb-true, cases_Bool, true≢false, eqb-true}
use Rattle.std.proofs.lemmas.List.{get_or_default}
use Rattle.std.proofs.lemmas.List.Elements.{All-nil, All-cons, All-contains}
use Rattle.std.proofs.lemmas.List.Folds.{list_all-append, list_all_at}
use Rattle.std.proofs.lemmas.List.FromFn.{fill_by_all}
use Rattle.std.proofs.lemmas.List.{length-append}
use Rattle.std.proofs.lemmas.Slice.Eq.{bytes_eq-Decides}
use Rattle.page_layout.specs.declared.geometry.Geometry.{Geometry}
use Rattle.page_layout.specs.declared.record.Record.{Record}
use Rattle.page_layout.specs.Page.{Page, page}
use Rattle.page_layout.specs.Raw.{bytes_of_page}
use Rattle.page_layout.specs.Geometry.{page_bytes}
use Rattle.page_layout.specs.Sound.{record_of, is_filled, is_erased_page}
use Rattle.page_layout.specs.Block.{is_programmed}
use Rattle.page_layout.proofs.RecordLemmas.{erased_no_record}
use Rattle.lab_dump.specs.PageBytes.{page_from_bytes, is_sound}
use Rattle.lab_dump.proofs.PageLemmas.{page_again}
use Rattle.lab_mend.specs.declared.choice.Origin.{Origin}
use Rattle.lab_mend.specs.declared.choice.Origin.TheVariants.{Sound, Conflict, Majority, Tried, Erased, Unsound}
use Rattle.lab_mend.specs.declared.trial.Trial.{Trial}
use Rattle.lab_mend.specs.declared.trial.Trial.TheVariants.{Taken, Tied, Nothing}
use Rattle.lab_mend.specs.Majority.{majority, majority_byte, column}
use Rattle.lab_mend.proofs.MajorityLemmas.{majority_set}
use Rattle.lab_mend.specs.Trial.{differing_bits, with_turned, is_tried}
use Rattle.lab_mend.proofs.TrialLemmas.{IsTurned, HasApart, turned_in, bits_once, bit_apart, other_bits}
use Rattle.lab_mend.specs.Choice.{Choice, is_same, zero_page, chosen, by_found, by_turns, by_trial, by_programmed, by_majority, by_sound, choice, NoneSound, AllErased, IsFirstProgrammed, IsTrial, IsSoundBetween, OriginMeans, AreDieSized, ChoiceLaw, ErasedReadingsLaw, AreAmong, ReadingOrderLaw, ZeroLaw}

-- ---- pages of a list

contains_first : (p : Page) (ps : List Page) → Contains (p ∷ ps) p
contains_first p ps = (0, omega arith, refl)

contains_later : (p q : Page) (ps : List Page) → Contains ps q → Contains (p ∷ ps) q
contains_later p q ps h = (suc h.0, (let l = h.1 in omega arith), h.2)

contains_at : (p q : Page) (ps : List Page) (k : ℕ) → k < length (p ∷ ps) → get_or (p ∷ ps) k q ≡ q → (p ≡ q) ⊎ Contains ps q
contains_at p q ps zero l e = inl e
contains_at p q ps (suc k) l e = inr (k, omega arith, e)

contains_cases : (p q : Page) (ps : List Page) → Contains (p ∷ ps) q → (p ≡ q) ⊎ Contains ps q
contains_cases p q ps h = contains_at p q ps h.0 h.1 h.2

-- ---- those that pass a test

-- the page is one of the list, and passes
pub record IsKept (f : Page → Bool) (ps : List Page) (q : Page) : Type 0 where
  pub in_list : Contains ps q
  pub passes : f q ≡ true

kept_later : (f : Page → Bool) (p : Page) (ps : List Page) (q : Page) → IsKept f ps q → IsKept f (p ∷ ps) q
kept_later f p ps q k = record { in_list = contains_later p q ps k.in_list; passes = k.passes }

pub kept_from : (f : Page → Bool) (ps : List Page) (q : Page) → Contains (filter f ps) q → IsKept f ps q
kept_from f [] q h = absurd (let l = h.1 in omega arith)
kept_from f (p ∷ ps) q h = elim (cases_Bool (f p)) [
  | inl is ↦ elim (contains_cases p q (filter f ps) (subst (λ b. Contains (cond b (p ∷ filter f ps) (filter f ps)) q) is h)) [
    | inl same ↦ record { in_list = subst (Contains (p ∷ ps)) same (contains_first p ps); passes = ap f (sym same) ∙ is }
    | inr more ↦ kept_later f p ps q (kept_from f ps q more)
  ]
  | inr is ↦ kept_later f p ps q (kept_from f ps q (subst (λ b. Contains (cond b (p ∷ filter f ps) (filter f ps)) q) is h))
]

pub kept_in : (f : Page → Bool) (ps : List Page) (q : Page) → Contains ps q → f q ≡ true → Contains (filter f ps) q
kept_in f [] q h e = absurd (let l = h.1 in omega arith)
kept_in f (p ∷ ps) q h e = elim (cases_Bool (f p)) [
  | inl is ↦ subst (λ b. Contains (cond b (p ∷ filter f ps) (filter f ps)) q) (sym is) (elim (contains_cases p q ps h) [
    | inl same ↦ subst (Contains (p ∷ filter f ps)) same (contains_first p (filter f ps))
    | inr more ↦ contains_later p q (filter f ps) (kept_in f ps q more e)
  ])
  | inr is ↦ subst (λ b. Contains (cond b (p ∷ filter f ps) (filter f ps)) q) (sym is) (elim (contains_cases p q ps h) [
    | inl same ↦ absurd (true≢false (sym e ∙ (ap f (sym same) ∙ is)))
    | inr more ↦ kept_in f ps q more e
  ])
]

pub none_kept : (f : Page → Bool) (ps : List Page) → filter f ps ≡ [] → All (λ p. f p ≡ false) ps
none_kept f [] e = All-nil (λ p. f p ≡ false)
none_kept f (p ∷ ps) e = elim (cases_Bool (f p)) [
  | inl is ↦ absurd (let none : p ∷ filter f ps ≡ [] = sym (ap (λ b. cond b (p ∷ filter f ps) (filter f ps)) is) ∙ e in cc)
  | inr is ↦ All-cons (λ q. f q ≡ false) p ps is (none_kept f ps (sym (ap (λ b. cond b (p ∷ filter f ps) (filter f ps)) is) ∙ e))
]

-- the first of them
pub first_kept : (f : Page → Bool) (ps : List Page) (p : Page) (more : List Page) → filter f ps ≡ p ∷ more → IsKept f ps p
first_kept f ps p more e = kept_from f ps p (subst (λ xs. Contains xs p) (sym e) (contains_first p more))

pub later_kept : (f : Page → Bool) (ps : List Page) (p q : Page) (more : List Page) → filter f ps ≡ p ∷ more → Contains more q → IsKept f ps q
later_kept f ps p q more e h = kept_from f ps q (subst (λ xs. Contains xs q) (sym e) (contains_later p q more h))

-- ---- pages that pass for the same

same_to_itself : (p : Page) → is_same p p ≡ true
same_to_itself p = (bytes_eq-Decides (bytes_of_page p) (bytes_of_page p)).1 refl

pub same_page : (p q : Page) → length p.body ≡ length q.body → is_same p q ≡ true → p ≡ q
same_page p q size e =
    sym (page_again p) ∙ (ap (λ n. page_from_bytes n (bytes_of_page p)) size ∙ (ap (page_from_bytes (length q.body)) ((bytes_eq-Decides (bytes_of_page p) (bytes_of_page q)).0 e) ∙ page_again q))

pub all_same : (p q : Page) (more : List Page) → list_all (is_same p) more ≡ true → Contains more q → is_same p q ≡ true
all_same p q [] e h = absurd (let l = h.1 in omega arith)
all_same p q (x ∷ xs) e h =
    let both = and_parts (is_same p x) (list_all (is_same p) xs) e in
    elim (contains_cases x q xs h) [ inl same ↦ ap (is_same p) (sym same) ∙ both.0 | inr more ↦ all_same p q xs both.1 more ]

-- one of the list is another page
pub record HasOther (p : Page) (more : List Page) : Type 0 where
  pub its : Page
  pub in_list : Contains more its
  pub apart : is_same p its ≡ false

pub other_of : (p : Page) (more : List Page) → list_all (is_same p) more ≡ false → HasOther p more
other_of p [] e = absurd (true≢false e)
other_of p (x ∷ xs) e = elim (and_cases (is_same p x) (list_all (is_same p) xs) e) [
  | inl here ↦ record { its = x; in_list = contains_first x xs; apart = here }
  | inr later ↦ let o = other_of p xs later in record { its = o.its; in_list = contains_later x o.its xs o.in_list; apart = o.apart }
]

-- ---- tests of pages

none_of : (o : Option Record) → is_some o ≡ false → o ≡ None
none_of None e = refl
none_of (Some r) e = absurd (true≢false e)

pub none_sound : (ps : List Page) → All (λ p. is_sound p ≡ false) ps → NoneSound ps
none_sound ps h k d l = none_of (record_of (get_or ps k d)) (h k d l)

same_size : (g : Geometry) (ps : List Page) (p q : Page) → AreDieSized g ps → Contains ps p → Contains ps q → length p.body ≡ length q.body
same_size g ps p q sized a b =
    let left = All-contains (λ (x : Page). (length x.body ≡ g.data_bytes) × (length x.spare ≡ g.spare_bytes)) ps p sized a in
    let right = All-contains (λ (x : Page). (length x.body ≡ g.data_bytes) × (length x.spare ≡ g.spare_bytes)) ps q sized b in
    left.0 ∙ sym right.0

-- ---- the law of the choice

-- a page that does not count as programmed is erased
pub left_erased : (b : Bool) → not b ≡ false → b ≡ true
left_erased true e = refl
left_erased false e = absurd (true≢false e)

pub left_programmed : (b : Bool) → not b ≡ true → b ≡ false
left_programmed true e = absurd (true≢false (sym e))
left_programmed false e = refl

all_erased : (ps : List Page) → All (λ p. is_programmed p ≡ false) ps → AllErased ps
all_erased ps h k d l = left_erased (is_erased_page (get_or ps k d)) (h k d l)

-- a page is the first of a list that is not erased, and of a longer one whose first page is erased
one_later : (x : Page) (xs : List Page) (p : Page) → is_erased_page x ≡ true → IsFirstProgrammed xs p → IsFirstProgrammed (x ∷ xs) p
one_later x xs p erased h = record {
  place = suc h.place;
  at = h.at;
  programmed = h.programmed;
  before = earlier;
}
  where
    earlier : (j : ℕ) (q : Page) → j < suc h.place → slice_get (x ∷ xs) j ≡ Some q → is_erased_page q ≡ true
    earlier zero q l at = let same : x ≡ q = cc in ap is_erased_page (sym same) ∙ erased
    earlier (suc j) q l at = h.before j q (omega arith) at

pub first_programmed : (ps : List Page) (p : Page) (more : List Page) → filter is_programmed ps ≡ p ∷ more → IsFirstProgrammed ps p
first_programmed [] p more e = absurd (cc)
first_programmed (x ∷ xs) p more e = elim (cases_Bool (is_programmed x)) [
  | inl is ↦
      let here : x ∷ filter is_programmed xs ≡ p ∷ more = sym (ap (λ b. cond b (x ∷ filter is_programmed xs) (filter is_programmed xs)) is) ∙ e in
      let same : x ≡ p = cc in
      record { place = 0; at = ap Some same; programmed = ap is_erased_page (sym same) ∙ left_programmed (is_erased_page x) is; before = λ j q l at. absurd (omega arith) }
  | inr is ↦ one_later x xs p (left_erased (is_erased_page x) is) (first_programmed xs p more (sym (ap (λ b. cond b (x ∷ filter is_programmed xs) (filter is_programmed xs)) is) ∙ e))
]

-- a page with so many of the bits turned in which they differ, if it is sound
pub turned_found : (pages : List Page) (p q : Page) (more : List Page) (n : ℕ) → filter is_programmed pages ≡ p ∷ more → IsKept is_sound (with_turned p (differing_bits p (p ∷ more)) n) q → IsSoundBetween pages p q n
turned_found pages p q more n e kept =
    let bits : List ℕ = differing_bits p (p ∷ more) in
    let h : IsTurned p bits n q = turned_in bits p q n (bits_once p (p ∷ more)) kept.in_list in
    record {
      sound = kept.passes;
      between = record {
        body_size = h.body_size;
        spare_size = h.spare_size;
        agrees = λ k l all. h.agrees k (λ at.
            let apart : HasApart p (p ∷ more) k = bit_apart p (p ∷ more) k at in
            let page = kept_from is_programmed pages apart.its (subst (λ xs. Contains xs apart.its) (sym e) apart.in_list) in
            other_bits p apart.its k apart.apart (all apart.its page.in_list (left_programmed (is_erased_page apart.its) page.passes)));
      };
      turns = h.count;
    }

-- one of the sound pages with so many bits turned, or what comes next
found_means : (g : Geometry) (pages : List Page) (p : Page) (more : List Page) (n : ℕ) → filter is_programmed pages ≡ p ∷ more → IsTrial pages p (length (differing_bits p (p ∷ more)))
    → (sound : List Page) → filter is_sound (with_turned p (differing_bits p (p ∷ more)) n) ≡ sound → (next : Choice) → OriginMeans g pages next.its next.origin
    → OriginMeans g pages (by_found p n (length (differing_bits p (p ∷ more))) sound next).its (by_found p n (length (differing_bits p (p ∷ more))) sound next).origin
found_means g pages p more n e trial [] is next means = means
found_means g pages p more n e trial (q ∷ others) is next means = by (list_all (is_same q) others) refl
  where
    d : ℕ
    d = length (differing_bits p (p ∷ more))

    first : IsSoundBetween pages p q n
    first = turned_found pages p q more n e (first_kept is_sound (with_turned p (differing_bits p (p ∷ more)) n) q others is)

    by : (b : Bool) → list_all (is_same q) others ≡ b → OriginMeans g pages (cond b (chosen q (Tried (Taken n d))) (chosen p (Tried (Tied n d)))).its (cond b (chosen q (Tried (Taken n d))) (chosen p (Tried (Tied n d)))).origin
    by true all = (p, trial, first)
    by false apart =
        let o = other_of q others apart in
        let second = turned_found pages p o.its more n e (later_kept is_sound (with_turned p (differing_bits p (p ∷ more)) n) q o.its others is o.in_list) in
        (trial, q, o.its, first, second, λ same. true≢false (sym (same_to_itself q) ∙ (ap (is_same q) same ∙ o.apart)))

turns_means : (g : Geometry) (pages : List Page) (p : Page) (more : List Page) → filter is_programmed pages ≡ p ∷ more → IsTrial pages p (length (differing_bits p (p ∷ more))) → (numbers : List ℕ)
    → OriginMeans g pages (by_turns p (differing_bits p (p ∷ more)) numbers).its (by_turns p (differing_bits p (p ∷ more)) numbers).origin
unfolding by_turns
turns_means g pages p more e trial [] = trial
turns_means g pages p more e trial (n ∷ ns) =
    found_means g pages p more n e trial (filter is_sound (with_turned p (differing_bits p (p ∷ more)) n)) refl (by_turns p (differing_bits p (p ∷ more)) ns) (turns_means g pages p more e trial ns)

trial_means : (g : Geometry) (pages : List Page) → NoneSound pages → (p : Page) (more : List Page) → filter is_programmed pages ≡ p ∷ more
    → OriginMeans g pages (by_trial p (differing_bits p (p ∷ more))).its (by_trial p (differing_bits p (p ∷ more))).origin
unfolding by_trial
trial_means g pages none p more e = by (is_tried (length bits)) refl
  where
    bits : List ℕ
    bits = differing_bits p (p ∷ more)

    by : (b : Bool) → is_tried (length bits) ≡ b → OriginMeans g pages (cond b (by_turns p bits (range_with_len 1 (length bits))) (chosen p Unsound)).its (cond b (by_turns p bits (range_with_len 1 (length bits))) (chosen p Unsound)).origin
    by true is =
        let both = and_parts (nat_le 1 (length bits)) (nat_le (length bits) 16) is in
        turns_means g pages p more e (record {
          none = none;
          is_first = first_programmed pages p more e;
          count = ap (λ xs. length (differing_bits p xs)) (sym e);
          some = leb-true 1 (length bits) both.0;
          few = leb-true (length bits) 16 both.1;
        }) (range_with_len 1 (length bits))
    by false is = (none, first_programmed pages p more e)

programmed_means : (g : Geometry) (ps : List Page) → NoneSound ps → (programmed : List Page) → filter is_programmed ps ≡ programmed → OriginMeans g ps (by_programmed g ps programmed).its (by_programmed g ps programmed).origin
programmed_means g ps none [] e = (all_erased ps (none_kept is_programmed ps e), refl)
programmed_means g ps none (p ∷ more) e = trial_means g ps none p more e

majority_means : (g : Geometry) (ps : List Page) → NoneSound ps → OriginMeans g ps (by_majority g ps).its (by_majority g ps).origin
unfolding by_majority
majority_means g ps none = by (nat_le 3 (length ps) && is_sound (majority g ps)) refl
  where
    by : (b : Bool) → (nat_le 3 (length ps) && is_sound (majority g ps)) ≡ b
        → OriginMeans g ps (cond b (chosen (majority g ps) Majority) (by_programmed g ps (filter is_programmed ps))).its
        (cond b (chosen (majority g ps) Majority) (by_programmed g ps (filter is_programmed ps))).origin
    by true is =
        let both = and_parts (nat_le 3 (length ps)) (is_sound (majority g ps)) is in
        (none, leb-true 3 (length ps) both.0, refl, both.1)
    by false is = programmed_means g ps none (filter is_programmed ps) refl

sound_means : (g : Geometry) (ps : List Page) → AreDieSized g ps → (sound : List Page) → filter is_sound ps ≡ sound → OriginMeans g ps (by_sound g ps sound).its (by_sound g ps sound).origin
sound_means g ps sized [] e = majority_means g ps (none_sound ps (none_kept is_sound ps e))
sound_means g ps sized (p ∷ more) e = by (list_all (is_same p) more) refl
  where
    first : IsKept is_sound ps p
    first = first_kept is_sound ps p more e

    same : list_all (is_same p) more ≡ true → (q : Page) → Contains ps q → IsSome (record_of q) → q ≡ p
    same all q at sound = elim (contains_cases p q more (subst (λ xs. Contains xs q) e (kept_in is_sound ps q at sound))) [
      | inl here ↦ sym here
      | inr later ↦ sym (same_page p q (same_size g ps p q sized first.in_list at) (all_same p q more all later))
    ]

    by : (b : Bool) → list_all (is_same p) more ≡ b → OriginMeans g ps (cond b (chosen p Sound) (chosen (zero_page g) Conflict)).its (cond b (chosen p Sound) (chosen (zero_page g) Conflict)).origin
    by true all = (first.in_list, first.passes, same all)
    by false apart =
        let o = other_of p more apart in
        let k = later_kept is_sound ps p o.its more e o.in_list in (
          refl,
          p,
          o.its,
          first.in_list,
          k.in_list,
          first.passes,
          k.passes,
          λ same. true≢false (sym (same_to_itself p) ∙ (ap (is_same p) same ∙ o.apart)),
        )

pub choice_law : ChoiceLaw
unfolding choice
choice_law g ps sized = sound_means g ps sized (filter is_sound ps) refl

-- ---- the law of the order

erased_there : (ps : List Page) (p : Page) → AllErased ps → Contains ps p → IsSome (record_of p) → ⊥
erased_there ps p all at sound = true≢false (sym sound ∙ ap is_some (erased_no_record p (All-contains (λ q. is_erased_page q ≡ true) ps p all at)))

sound_there : (ps : List Page) (p : Page) → NoneSound ps → Contains ps p → IsSome (record_of p) → ⊥
sound_there ps p none at sound = true≢false (sym sound ∙ ap is_some (All-contains (λ q. record_of q ≡ None) ps p none at))

trial_none : (g : Geometry) (ps : List Page) (p : Page) (t : Trial) → OriginMeans g ps p (Tried t) → NoneSound ps
trial_none g ps p (Taken n d) h = h.1.none
trial_none g ps p (Tied n d) h = h.0.none
trial_none g ps p (Nothing d) h = h.none

ordered : (g : Geometry) (ps qs : List Page) (p x y : Page) (a b : Origin) → AreAmong ps qs → AreAmong qs ps → Contains ps p → IsSome (record_of p) → OriginMeans g ps x a → OriginMeans g qs y b → chosen x a ≡ chosen y b
ordered g ps qs p x y Majority b to from at sound h k = absurd (sound_there ps p h.0 at sound)
ordered g ps qs p x y Erased b to from at sound h k = absurd (erased_there ps p h.0 at sound)
ordered g ps qs p x y (Tried t) b to from at sound h k = absurd (sound_there ps p (trial_none g ps x t h) at sound)
ordered g ps qs p x y Unsound b to from at sound h k = absurd (sound_there ps p h.0 at sound)
ordered g ps qs p x y Sound Majority to from at sound h k = absurd (sound_there qs p k.0 (to p at) sound)
ordered g ps qs p x y Sound (Tried t) to from at sound h k = absurd (sound_there qs p (trial_none g qs y t k) (to p at) sound)
ordered g ps qs p x y Conflict (Tried t) to from at sound h k = absurd (sound_there qs p (trial_none g qs y t k) (to p at) sound)
ordered g ps qs p x y Sound Erased to from at sound h k = absurd (erased_there qs p k.0 (to p at) sound)
ordered g ps qs p x y Sound Unsound to from at sound h k = absurd (sound_there qs p k.0 (to p at) sound)
ordered g ps qs p x y Conflict Majority to from at sound h k = absurd (sound_there qs p k.0 (to p at) sound)
ordered g ps qs p x y Conflict Erased to from at sound h k = absurd (erased_there qs p k.0 (to p at) sound)
ordered g ps qs p x y Conflict Unsound to from at sound h k = absurd (sound_there qs p k.0 (to p at) sound)
ordered g ps qs p x y Sound Sound to from at sound h k = ap (λ z. chosen z Sound) (k.2 x (to x h.0) h.1)
ordered g ps qs p x y Conflict Conflict to from at sound h k = ap (λ z. chosen z Conflict) (h.0 ∙ sym k.0)
ordered g ps qs p x y Sound Conflict to from at sound h k = absurd (k.7 (h.2 k.1 (from k.1 k.3) k.5 ∙ sym (h.2 k.2 (from k.2 k.4) k.6)))
ordered g ps qs p x y Conflict Sound to from at sound h k = absurd (h.7 (k.2 h.1 (to h.1 h.3) h.5 ∙ sym (k.2 h.2 (to h.2 h.4) h.6)))

sized_among : (g : Geometry) (ps qs : List Page) → AreDieSized g ps → AreAmong qs ps → AreDieSized g qs
sized_among g ps qs sized from k d l =
    All-contains (λ (x : Page). (length x.body ≡ g.data_bytes) × (length x.spare ≡ g.spare_bytes)) ps (get_or qs k d) sized (from (get_or qs k d) (k, l, get_or_default qs k (get_or qs k d) d l))

pub order_law : ReadingOrderLaw
order_law g ps qs p sized to from at sound =
    ordered g ps qs p (choice g ps).its (choice g qs).its (choice g ps).origin (choice g qs).origin to from at sound (choice_law g ps sized) (choice_law g qs (sized_among g ps qs sized from))

-- ---- rows that are erased in every reading

-- the page has the die's sizes, and is erased
record IsBlank (g : Geometry) (p : Page) : Type 0 where
  body_size : length p.body ≡ g.data_bytes
  spare_size : length p.spare ≡ g.spare_bytes
  erased : is_erased_page p ≡ true

filled_bytes : (p : Page) → is_erased_page p ≡ true → list_all (λ b. b == 255) (bytes_of_page p) ≡ true
unfolding is_filled
filled_bytes p e = list_all-append (λ b. b == 255) p.body p.spare ∙ e

byte_set : (p : Page) (j : ℕ) → is_erased_page p ≡ true → j < length (bytes_of_page p) → get_or (bytes_of_page p) j 0 ≡ 255
byte_set p j e l = elim (cases_Bool (get_or (bytes_of_page p) j 0 == 255)) [
  | inl set ↦ eqb-true (get_or (bytes_of_page p) j 0) 255 set
  | inr unset ↦ absurd (true≢false (sym (filled_bytes p e) ∙ list_all_at (λ b. b == 255) (bytes_of_page p) j 0 l unset))
]

blank_size : (g : Geometry) (p : Page) → IsBlank g p → length (bytes_of_page p) ≡ page_bytes g
blank_size g p h = let body = h.body_size in let spare = h.spare_size in omega (arith, length-append p.body p.spare)

blank_byte : (g : Geometry) (p : Page) (j : ℕ) → IsBlank g p → j < page_bytes g → get_or (bytes_of_page p) j 0 ≡ 255
blank_byte g p j h l = let size = blank_size g p h in byte_set p j h.erased (omega arith)

-- the majority of erased pages is the first of them
erased_majority : (g : Geometry) (p : Page) (ps : List Page) → ((q : Page) → Contains (p ∷ ps) q → IsBlank g q) → majority g (p ∷ ps) ≡ p
unfolding majority
erased_majority g p ps each =
    let first : IsBlank g p = each p (contains_first p ps) in
    let bytes : bytes_of_page p ≡ map (λ j. majority_byte (column (p ∷ ps) j)) (range_with_len 0 (page_bytes g)) =
    fill_by_all (λ j. majority_byte (column (p ∷ ps) j)) (bytes_of_page p) (page_bytes g) 0 (blank_size g p first)
    (λ j l. blank_byte g p j first l ∙ sym (ap majority_byte (column_set g (p ∷ ps) j l each) ∙ majority_set (length (p ∷ ps)) (omega arith))) in
    ap (page_from_bytes g.data_bytes) (sym bytes) ∙ (ap (λ n. page_from_bytes n (bytes_of_page p)) (sym first.body_size) ∙ page_again p)
  where
    column_set : (g : Geometry) (ps : List Page) (j : ℕ) → j < page_bytes g → ((q : Page) → Contains ps q → IsBlank g q) → column ps j ≡ replicate (length ps) 255
    column_set g [] j l each = refl
    column_set g (q ∷ qs) j l each =
        ap (λ x. x ∷ column qs j) (blank_byte g q j (each q (contains_first q qs)) l) ∙ ap (λ xs. 255 ∷ xs) (column_set g qs j l (λ r at. each r (contains_later q r qs at)))

dropped : (f : Page → Bool) (ps : List Page) → ((q : Page) → Contains ps q → f q ≡ false) → filter f ps ≡ []
dropped f [] h = refl
dropped f (p ∷ ps) h = ap (λ b. cond b (p ∷ filter f ps) (filter f ps)) (h p (contains_first p ps)) ∙ dropped f ps (λ q at. h q (contains_later p q ps at))

blank_unsound : (g : Geometry) (p : Page) → IsBlank g p → is_sound p ≡ false
blank_unsound g p h = ap is_some (erased_no_record p h.erased)

-- nothing is sound or programmed, nor the majority sound
erased_origin : (g : Geometry) (p : Page) (ps : List Page) → ((q : Page) → Contains (p ∷ ps) q → IsBlank g q) → (choice g (p ∷ ps)).origin ≡ Erased
unfolding choice by_majority
erased_origin g p ps each =
    let all : List Page = p ∷ ps in
    let none : filter is_sound all ≡ [] = dropped is_sound all (λ q at. blank_unsound g q (each q at)) in
    let unsound : (nat_le 3 (length all) && is_sound (majority g all)) ≡ false =
    and_left (nat_le 3 (length all)) (is_sound (majority g all)) (ap is_sound (erased_majority g p ps each) ∙ blank_unsound g p (each p (contains_first p ps))) in
    let unprogrammed : filter is_programmed all ≡ [] = dropped is_programmed all (λ q at. ap not (each q at).erased) in
    ap (λ xs. (by_sound g all xs).origin) none ∙ (ap (λ b. (cond b (chosen (majority g all) Majority) (by_programmed g all (filter is_programmed all))).origin) unsound
    ∙ ap (λ xs. (by_programmed g all xs).origin) unprogrammed)
  where
    and_left : (a b : Bool) → b ≡ false → (a && b) ≡ false
    and_left true b e = e
    and_left false b e = refl

blank_in : (g : Geometry) (ps : List Page) → AreDieSized g ps → AllErased ps → (q : Page) → Contains ps q → IsBlank g q
blank_in g ps sized all q at =
    let sizes = All-contains (λ (x : Page). (length x.body ≡ g.data_bytes) × (length x.spare ≡ g.spare_bytes)) ps q sized at in
    record { body_size = sizes.0; spare_size = sizes.1; erased = All-contains (λ (x : Page). is_erased_page x ≡ true) ps q all at }

pub erased_law : ErasedReadingsLaw
erased_law g [] sized some = absurd (omega arith)
erased_law g (p ∷ ps) sized some = (
  λ e. let means : OriginMeans g (p ∷ ps) (choice g (p ∷ ps)).its Erased = subst (OriginMeans g (p ∷ ps) (choice g (p ∷ ps)).its) e (choice_law g (p ∷ ps) sized) in means.0,
  λ all. erased_origin g p ps (blank_in g (p ∷ ps) sized all),
)

-- ---- zeros

zero_spare : (d s : ℕ) → record_of (page (replicate d 0) (replicate s 0)) ≡ None
unfolding record_of is_filled
zero_spare d zero = refl
zero_spare d (suc s) = refl

pub zero_law : ZeroLaw
zero_law g = zero_spare g.data_bytes g.spare_bytes
