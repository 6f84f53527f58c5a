-- The blocks that a word names, and the pages that mark them.
use Rattle.std.proofs.Common.{◌≡◌, ◌≢◌, ◌⊎◌, inl, inr, ℕ, suc, ◌+◌, ◌*◌, ◌<◌, ◌≤◌, ◌==◌, ◌||◌, nat_eq, Bool, true, false, List, [], ◌∷◌, ◌++◌, length, get_or, replicate, take, drop, Some, None, refl, sym, ap, ◌∙◌, subst, arith, if◌then◌else◌}
use Rattle.std.specs.Prelude.{Contains, not, slice_get, slice_index_or, slice_set}
use Rattle.std.specs.List.{list_any}
use Rattle.std.proofs.lemmas.Bool.{cases_lt, cases_order}
use Rattle.std.proofs.lemmas.Bool.Decides.{eqb_tells}
use Rattle.std.proofs.lemmas.List.{append_assoc, drop-replicate, drop-set-add, get_or-append-add, get_or-replicate, get_or-set_same, length-append, length-replicate, length-set, take-replicate, take-set-le}
use Rattle.std.proofs.lemmas.List.Folds.{list_any-append}
use Rattle.std.proofs.lemmas.Cmp.{nat_eq_equiv}
use Rattle.std.proofs.lemmas.Map.Views.{Contains-from_any}
use Rattle.std.proofs.lemmas.Option.{get_or_from_slice_get, slice_get-get_or, slice_get_within}
use Rattle.page_layout.specs.declared.geometry.Geometry.{Geometry}
use Rattle.page_layout.specs.Geometry.{page_bytes, row_count}
use Rattle.page_layout.specs.Page.{page}
use Rattle.page_layout.specs.Change.{erased_page}
use Rattle.onfi_cycles.specs.Cycles.{page_of}
use Rattle.nand_die.specs.Made.{AreNames, IsFirstMisnamed, IsMisnamed, with_mark}
use Rattle.file_die.specs.Store.{Held, Puts, blank, page_in}
use Rattle.program_words.specs.Numbers.{SpellsNumbers, StartsWithNumber, number_of}
use Rattle.program_words.proofs.NumberLemmas.{no_comma}
use Rattle.disk_commands.specs.BadBlocks.{HasMarks, is_first_row, marked_page}

-- ---- numbers with commas between them

-- a text that begins with a number and a comma is no number
pub not_alone : (text rest : List ℕ) (n m : ℕ) → StartsWithNumber text n rest → number_of text ≡ Some m → ⊥
not_alone text rest n m starts is =
    let digits = starts.0 in
    let at : get_or text (length digits + 0) 0 ≡ 44 = ap (λ t. get_or t (length digits + 0) 0) starts.1 ∙ get_or-append-add digits (44 ∷ rest) 0 0 in
    let long : length text ≡ length digits + suc (length rest) = ap length starts.1 ∙ length-append digits (44 ∷ rest) in
    no_comma m text is (length digits + 0) (omega (arith, long)) at

-- WHAT A WORD SPELLS is what was read of it and what the rest spells
pub record AreReadFrom (word rest : List ℕ) (blocks : List ℕ) : Type 0 where
  pub forth : (ns : List ℕ) → SpellsNumbers rest ns → SpellsNumbers word (blocks ++ ns)
  pub back : (all : List ℕ) → SpellsNumbers word all → (ns : List ℕ) × (all ≡ blocks ++ ns) × SpellsNumbers rest ns

pub none_read : (word : List ℕ) → AreReadFrom word word []
none_read word = record { forth = λ ns spelled. spelled; back = λ all spelled. (all, refl, spelled) }

more_forth : (rest behind : List ℕ) (n : ℕ) → StartsWithNumber rest n behind → (ns : List ℕ) → SpellsNumbers behind ns → SpellsNumbers rest (n ∷ ns)
more_forth rest behind n starts [] spelled = absurd spelled
more_forth rest behind n starts (m ∷ ms) spelled = (behind, starts, spelled)

more_back : (rest behind : List ℕ) (n : ℕ) → StartsWithNumber rest n behind → ((k : ℕ) (r : List ℕ) → StartsWithNumber rest k r → (n ≡ k) × (behind ≡ r)) → (all : List ℕ) → SpellsNumbers rest all
    → (ns : List ℕ) × (all ≡ n ∷ ns) × SpellsNumbers behind ns
more_back rest behind n starts one [] spelled = absurd spelled
more_back rest behind n starts one (k ∷ []) spelled = absurd (not_alone rest behind n k starts spelled)
more_back rest behind n starts one (k ∷ m ∷ ms) spelled =
    let same = one k spelled.0 spelled.1 in
    (m ∷ ms, ap (λ x. x ∷ m ∷ ms) (sym same.0), subst (λ r. SpellsNumbers r (m ∷ ms)) (sym same.1) spelled.2)

pub one_more : (word rest behind : List ℕ) (n : ℕ) (blocks : List ℕ) → AreReadFrom word rest blocks → StartsWithNumber rest n behind → ((k : ℕ) (r : List ℕ) → StartsWithNumber rest k r → (n ≡ k) × (behind ≡ r))
    → AreReadFrom word behind (blocks ++ n ∷ [])
one_more word rest behind n blocks read starts one = record {
  forth = λ ns spelled. subst (SpellsNumbers word) (sym (append_assoc blocks (n ∷ []) ns)) (read.forth (n ∷ ns) (more_forth rest behind n starts ns spelled));
  back = λ all spelled.
      (let before = read.back all spelled in
      let more = more_back rest behind n starts one before.0 before.2 in
      (more.0, before.1 ∙ ap (λ l. blocks ++ l) more.1 ∙ sym (append_assoc blocks (n ∷ []) more.0), more.2));
}

-- a rest that begins with no number and a comma is one number, or the word spells none
pub none_spelled : (word rest : List ℕ) (blocks : List ℕ) → AreReadFrom word rest blocks → ((k : ℕ) (r : List ℕ) → StartsWithNumber rest k r → ⊥) → number_of rest ≡ None → (all : List ℕ) → SpellsNumbers word all → ⊥
none_spelled word rest blocks read none lone all spelled = go (read.back all spelled).0 (read.back all spelled).2
  where
    go : (ns : List ℕ) → SpellsNumbers rest ns → ⊥
    go [] s = s
    go (k ∷ []) s = (let clash : None ≡ Some k = sym lone ∙ s in cc)
    go (k ∷ m ∷ ms) s = none k s.0 s.1

-- a text behind a number and its comma is shorter, and is text
pub shorter : (text rest : List ℕ) (n : ℕ) → StartsWithNumber text n rest → length rest < length text
shorter text rest n starts = (let long : length text ≡ length starts.0 + suc (length rest) = ap length starts.1 ∙ length-append starts.0 (44 ∷ rest) in omega (arith, long))

-- what a push that was done has added
pub pushed : (ok failed : Bool) (xs : List ℕ) (x : ℕ) (ys : List ℕ) → ys ≡ (if ok then xs ++ x ∷ [] else xs) → ok ≡ not failed → failed ≡ false → ys ≡ xs ++ x ∷ []
pushed true failed xs x ys is negation done = is
pushed false true xs x ys is negation done = (let clash : true ≡ false = done in absurd (cc))
pushed false false xs x ys is negation done = (let clash : false ≡ true = negation in absurd (cc))

-- ---- blocks that are named wrongly

-- those before a place are right
abbrev pub AreRightTo : Geometry → List ℕ → (at : ℕ) → Type 0
AreRightTo g names at = (before other : ℕ) → before < at → ¬ IsMisnamed g names before other

pub none_before : (g : Geometry) (names : List ℕ) → AreRightTo g names 0
none_before g names before other lt = absurd (omega (arith, lt))

pub one_right : (g : Geometry) (names : List ℕ) (at : ℕ) → at < length names → AreRightTo g names at → slice_index_or names at 0 < g.blocks
    → ((k d : ℕ) → 0 ≤ k → k < length (take at names) → nat_eq (slice_index_or (take at names) k d) (slice_index_or names at 0) ≡ false) → AreRightTo g names (at + 1)
one_right g names at within right in_die apart before other lt wrong = elim (cases_order before at) [
  | inl e ↦ here e
  | inr c ↦ elim c [
    | inl less ↦ right before other less wrong
    | inr more ↦ absurd (omega (arith, more, lt))
  ]
]
  where
    here : before ≡ at → ⊥
    here e =
        let is : slice_index_or names at 0 ≡ other = get_or_from_slice_get names at other 0 (ap (slice_get names) (sym e) ∙ wrong.here) in
        elim wrong.wrong [
          | inl past ↦ omega (arith, in_die, is, past)
          | inr named ↦ again is (subst (λ n. Contains (take n names) other) e named)
        ]
      where
        again : slice_index_or names at 0 ≡ other → Contains (take at names) other → ⊥
        again is found =
            let never : nat_eq (slice_index_or (take at names) found.0 other) (slice_index_or names at 0) ≡ false = apart found.0 other (omega arith) found.1 in
            let yes : nat_eq (slice_index_or (take at names) found.0 other) (slice_index_or names at 0) ≡ true = ap (λ n. nat_eq n (slice_index_or names at 0)) found.2 ∙ ap (nat_eq other) is ∙ nat_eq_equiv.refl other in
            let clash : true ≡ false = sym yes ∙ never in
            cc

pub all_right : (g : Geometry) (names : List ℕ) (at : ℕ) → length names ≤ at → AreRightTo g names at → AreNames g names
all_right g names at end right k block wrong = right k block (omega (arith, end, slice_get_within names k block wrong.here)) wrong

pub first_wrong : (g : Geometry) (names : List ℕ) (at : ℕ) → at < length names → AreRightTo g names at → (g.blocks ≤ slice_index_or names at 0) ⊎ Contains (take at names) (slice_index_or names at 0) → IsFirstMisnamed g names (slice_index_or names at 0)
first_wrong g names at within right wrong = record { at = at; misnamed = record { here = slice_get-get_or names at 0 within; wrong = wrong }; first = right }

pub found_again : (names : List ℕ) (x : ℕ) → list_any (λ y. nat_eq y x) names ≡ true → Contains names x
found_again names x is = Contains-from_any {eq = λ q y. nat_eq y q} (λ q y same. sound q y same) x names is
  where
    sound : (q y : ℕ) → nat_eq y q ≡ true → q ≡ y
    sound q y same = elim (eqb_tells y q) [
      | inl t ↦ sym t.1
      | inr f ↦ absurd (let clash : true ≡ false = sym same ∙ f.0 in cc)
    ]

-- a block of the list is one of the die
pub is_in_die : (g : Geometry) (names : List ℕ) (at : ℕ) → AreNames g names → at < length names → slice_index_or names at 0 < g.blocks
is_in_die g names at right within = elim (cases_lt (slice_index_or names at 0) g.blocks) [
  | inl less ↦ less
  | inr past ↦ absurd (right at (slice_index_or names at 0) (record { here = slice_get-get_or names at 0 within; wrong = inl past }))
]

-- ---- the page that marks a block

pub mark_bytes : (g : Geometry) → page_of g (slice_set (replicate (page_bytes g) 255) g.data_bytes 0) ≡ with_mark (erased_page g)
mark_bytes g = ap (λ b. page b (drop g.data_bytes (slice_set bytes g.data_bytes 0))) body ∙ ap (λ s. page (replicate g.data_bytes 255) s) spare
  where
    bytes : List ℕ
    bytes = replicate (g.data_bytes + g.spare_bytes) 255

    front : take g.data_bytes bytes ≡ replicate g.data_bytes 255
    front = take-replicate {X = ℕ} g.data_bytes (g.data_bytes + g.spare_bytes) 255 (omega arith)

    back : drop g.data_bytes bytes ≡ replicate g.spare_bytes 255
    back = drop-replicate {X = ℕ} g.data_bytes (g.data_bytes + g.spare_bytes) 255 ∙ ap (λ n. replicate {A = ℕ} n 255) (omega arith)

    body : take g.data_bytes (slice_set bytes g.data_bytes 0) ≡ replicate g.data_bytes 255
    body = take-set-le {A = ℕ} g.data_bytes bytes g.data_bytes 0 (omega arith) ∙ front

    at : g.data_bytes ≡ g.data_bytes + 0
    at = omega arith

    spare : drop g.data_bytes (slice_set bytes g.data_bytes 0) ≡ slice_set (replicate g.spare_bytes 255) 0 0
    spare = ap (λ i. drop g.data_bytes (slice_set bytes i 0)) at ∙ drop-set-add {A = ℕ} g.data_bytes bytes 0 0 ∙ ap (λ l. slice_set l 0 0) back

pub mark_is : (g : Geometry) (items : List ℕ) (place n : ℕ) → place ≡ g.data_bytes → n ≡ g.data_bytes + g.spare_bytes → items ≡ replicate n 255 → page_of g (slice_set items place 0) ≡ with_mark (erased_page g)
mark_is g items place n at long is = ap (λ i. page_of g (slice_set items i 0)) at ∙ ap (λ l. page_of g (slice_set l g.data_bytes 0)) (is ∙ ap (λ k. replicate k 255) long) ∙ mark_bytes g

-- ---- the marks

-- erased pages have none
pub blank_marks : (g : Geometry) (s : Held) → s ≡ blank g → HasMarks g [] s
blank_marks g s is = subst (HasMarks g []) (sym is) (record {
  geometry = refl;
  long = length-replicate (row_count g) (erased_page g);
  pages = λ row within. replicated row within;
})
  where
    replicated : (row : ℕ) → row < row_count g → page_in (blank g).pages row ≡ erased_page g
    replicated row within = get_or-replicate (row_count g) row (erased_page g) _ within

-- whether a row is marked, with one block more
marked_more : (g : Geometry) (seen : List ℕ) (b row : ℕ) (here : Bool) → (b * g.pages == row) ≡ here → is_first_row g (seen ++ b ∷ []) row ≡ (is_first_row g seen row || (here || false))
marked_more g seen b row here is = list_any-append (λ x. x * g.pages == row) seen (b ∷ []) ∙ ap (λ h. is_first_row g seen row || (h || false)) is

or_true : (a : Bool) → (a || (true || false)) ≡ true
or_true true = refl
or_true false = refl

or_false : (a : Bool) → (a || (false || false)) ≡ a
or_false true = refl
or_false false = refl

-- one block more is marked
pub more_marks : (g : Geometry) (seen : List ℕ) (b row : ℕ) (s t : Held) → row ≡ b * g.pages → row < row_count g → HasMarks g seen s → Puts s row (with_mark (erased_page g)) true t → t.geometry ≡ s.geometry
    → HasMarks g (seen ++ b ∷ []) t
more_marks g seen b row s t at within marks puts same = record {
  geometry = same ∙ marks.geometry;
  long = ap length (puts.put refl) ∙ length-set s.pages row (with_mark (erased_page g)) ∙ marks.long;
  pages = λ r in_range. page_of_row r in_range (eqb_tells (b * g.pages) r);
}
  where
    page_of_row : (r : ℕ) → r < row_count g → (((b * g.pages == r) ≡ true) × (b * g.pages ≡ r)) ⊎ (((b * g.pages == r) ≡ false) × (b * g.pages ≢ r)) → page_in t.pages r ≡ marked_page g (seen ++ b ∷ []) r
    page_of_row r in_range (inl here) =
        let put : page_in t.pages r ≡ with_mark (erased_page g) =
        (ap (λ l. page_in l r) (puts.put refl) ∙ ap (λ i. page_in (slice_set s.pages row (with_mark (erased_page g))) i) (sym here.1 ∙ sym at) ∙ get_or-set_same s.pages row (with_mark (erased_page g)) _ (subst (λ n. row < n) (sym marks.long) within)) in
        put ∙ sym (ap (λ (f : Bool). if f then with_mark (erased_page g) else erased_page g) (marked_more g seen b r true here.0 ∙ or_true (is_first_row g seen r)))
    page_of_row r in_range (inr other) =
        let apart : r ≢ row = λ same_row. other.1 (sym at ∙ sym same_row) in
        puts.others r apart ∙ marks.pages r in_range
        ∙ sym (ap (λ (f : Bool). if f then with_mark (erased_page g) else erased_page g) (marked_more g seen b r false other.0 ∙ or_false (is_first_row g seen r)))
