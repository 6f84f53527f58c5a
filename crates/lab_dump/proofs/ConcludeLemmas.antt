-- What all pages leave open, summed up block by block.
use Rattle.std.proofs.Common.{◌≡◌, ◌⊎◌, inl, inr, ℕ, zero, suc, add-one, ◌+◌, ◌*◌, ◌/◌, ◌%◌, ◌^◌, ◌<◌, ◌≤◌, Bool, true, false, List, [], ◌∷◌, length, get_or, set, take, replicate, Option, Some, None, refl, sym, ap, ◌∙◌, subst, arith, slice_get, cond, count_by}
use Rattle.std.specs.Prelude.{◌==◌, ◌&&◌, ◌||◌, not, nat_lt, slice_index, slice_range}
use Rattle.std.specs.Int.{w32, from_le_bytes}
use Rattle.std.specs.Global.{Vec}
use Rattle.std.proofs.Math.Seq.{take-length}
use Rattle.std.proofs.Math.Nat.{mul-le-mul_right, mod-lt, div-lt_iff_lt-mul}
use Rattle.std.proofs.lemmas.Bool.{cases_eq, cases_order, eq-eqb, ne_eqb, eqb-true, lt-ltb, le-ltb, true≢false}
use Rattle.std.proofs.lemmas.List.Sums.{sum_by_push}
use Rattle.std.proofs.lemmas.List.{places, take_all, take_more, get_or-set_same, get_or-set_other, get_or_default}
use Rattle.page_layout.specs.declared.geometry.Geometry.{Geometry}
use Rattle.page_layout.specs.declared.record.Key.TheVariants.{Table}
use Rattle.page_layout.specs.Geometry.{entries, key_count, row_count, table_pages}
use Rattle.page_layout.specs.Greatest.{place_of}
use Rattle.page_layout.specs.Page.{Page, Image}
use Rattle.page_layout.specs.Sound.{record_of}
use Rattle.page_layout.specs.Newest.{latest_below, newest}
use Rattle.page_layout.specs.Live.{is_in_block}
use Rattle.page_layout.specs.Array.{marks}
use Rattle.page_layout.specs.Block.{is_broken}
use Rattle.page_layout.specs.Word.{word_at}
use Rattle.page_layout.proofs.ArrayLemmas.{latest-newest, length-marks}
use Rattle.image_check.specs.Blocks.{body_in, is_factory, table_body, table_class, word_of_block}
use Rattle.image_check.specs.Survey.{HasTableBytes}
use Rattle.lab_dump.specs.declared.trace.Trace.{Trace}
use Rattle.lab_dump.specs.declared.trace.Trace.TheVariants.{Never}
use Rattle.lab_dump.specs.declared.doubts.Doubts.{Doubts}
use Rattle.lab_dump.specs.declared.doubting.Doubting.{Doubting}
use Rattle.lab_dump.specs.declared.concluding.Excuse.{Excuse}
use Rattle.lab_dump.specs.declared.concluding.Excuse.TheVariants.{Open, Factory, Rewritten}
use Rattle.lab_dump.specs.Trace.{is_tied_in, place_in_trace}
use Rattle.lab_dump.specs.Count as sorts
use Rattle.lab_dump.specs.Count.{HasUnsound, is_unsound_in, unsound_below}
use Rattle.page_layout.specs.Change.{one_if}
use Rattle.lab_dump.specs.Bad.{is_excused, is_plain, is_rewritten, is_tied, keeps_below, latest_at, strange_of, ties_below}
use Rattle.lab_dump.specs.Doubts.{doubtful_of, doubts_of, has_page, holes_of, legible_of, is_hole, is_hole_below, is_record_past, is_unsound_at, rows_passing, ToldOnceLaw}
use Rattle.lab_dump.specs.Doubting.{HasHoles, HasTraces, IsDoubting, holes_below}
use Rattle.lab_dump.specs.declared.said.SaidPage.{SaidPage}
use Rattle.lab_dump.specs.Said.{said_below}
use Rattle.lab_dump.specs.Concluding.{IsSeen, added, capped, excuse_by, excuse_of, keeps_in, one_open, ties_in}
use Rattle.lab_dump.proofs.DoubtLemmas.{upto, upto_more, upto_none, upto_same, upto_sum, upto_pages, some_pages}
use Rattle.lab_dump.proofs.TraceLemmas.{held_at, tells_place, tells_tied}
use Rattle.lab_dump.proofs.AnyLemmas.{any_at, any_more, any_same}

-- ---- ties, and the blocks that keep a newest page

pub ties_are : (g : Geometry) (image : Image) (traces : List Trace) → length image ≡ row_count g → HasTraces g (marks image) (row_count g) traces → ties_in traces (length traces) ≡ ties_below g image (key_count g)
ties_are g image traces size h =
    ap (ties_in traces) h.size
    ∙ any_same (λ i. is_tied_in (get_or traces i Never)) (λ i. is_tied (latest_at g image (length image) i)) (key_count g)
    (λ i l. tells_tied (get_or traces i Never) (latest_at g image (row_count g) i) (held_at g (marks image) (row_count g) i traces Never h l) ∙ ap (λ n. is_tied (latest_at g image n i)) (sym size))

pub keeps_are : (g : Geometry) (image : Image) (traces : List Trace) (block : ℕ) → length image ≡ row_count g → HasTraces g (marks image) (row_count g) traces → keeps_in g.pages traces (length traces) block ≡ keeps_below g image (key_count g) block
keeps_are g image traces block size h =
    ap (λ n. keeps_in g.pages traces n block) h.size
    ∙ any_same (λ i. is_in_block g.pages block (place_in_trace (get_or traces i Never))) (λ i. is_in_block g.pages block (place_of (latest_at g image (length image) i))) (key_count g)
    (λ i l. ap (is_in_block g.pages block) (tells_place (get_or traces i Never) (latest_at g image (row_count g) i) (held_at g (marks image) (row_count g) i traces Never h l)) ∙ ap (λ n. is_in_block g.pages block (place_of (latest_at g image n i))) (sym size))

pub ties_more : (traces : List Trace) (n : ℕ) (d : Trace) → n < length traces → ties_in traces n ≡ false → is_tied_in (get_or traces n d) ≡ false → ties_in traces (n + 1) ≡ false
ties_more traces n d l before now =
    ap (ties_in traces) (add-one n) ∙ (any_more (λ i. is_tied_in (get_or traces i Never)) n ∙ (ap (λ b. b || is_tied_in (get_or traces n Never)) before ∙ (ap is_tied_in (get_or_default traces n Never d l) ∙ now)))

pub ties_all : (traces : List Trace) (n : ℕ) (d : Trace) → n < length traces → is_tied_in (get_or traces n d) ≡ true → true ≡ ties_in traces (length traces)
ties_all traces n d l now = sym (any_at (λ i. is_tied_in (get_or traces i Never)) (length traces) n l (ap is_tied_in (get_or_default traces n Never d l) ∙ now))

-- the first n keys are marked
pub record AreMarked (pages : ℕ) (traces : List Trace) (n : ℕ) (kept : List Bool) : Type 0 where
  pub each : (b : ℕ) → b < length kept → get_or kept b false ≡ keeps_in pages traces n b

keeps_more : (pages : ℕ) (traces : List Trace) (n b : ℕ) (d : Trace) → n < length traces → keeps_in pages traces (n + 1) b ≡ (keeps_in pages traces n b || is_in_block pages b (place_in_trace (get_or traces n d)))
keeps_more pages traces n b d l =
    ap (λ k. keeps_in pages traces k b) (add-one n) ∙ (any_more (λ i. is_in_block pages b (place_in_trace (get_or traces i Never))) n ∙ ap (λ t. keeps_in pages traces n b || is_in_block pages b (place_in_trace t)) (get_or_default traces n Never d l))

or_false : (a : Bool) → (a || false) ≡ a
or_false true = refl
or_false false = refl

or_true : (a : Bool) → (a || true) ≡ true
or_true true = refl
or_true false = refl

pub marked_more : (pages : ℕ) (traces : List Trace) (n : ℕ) (kept new : List Bool) (d : Trace) (o : Option ℕ) → AreMarked pages traces n kept → n < length traces → o ≡ place_in_trace (get_or traces n d) → length new ≡ length kept
    → ((b : ℕ) → b < length new → get_or new b false ≡ (get_or kept b false || is_in_block pages b o)) → AreMarked pages traces (n + 1) new
marked_more pages traces n kept new d o h l is size each = record {
  each = λ b k. each b k ∙ (ap (λ t. t || is_in_block pages b o) (h.each b (omega arith)) ∙ (ap (λ p. keeps_in pages traces n b || is_in_block pages b p) is ∙ sym (keeps_more pages traces n b d l)));
}

-- one block more
pub mark_none : (pages b : ℕ) (kept : List Bool) → get_or kept b false ≡ (get_or kept b false || is_in_block pages b None)
mark_none pages b kept = sym (or_false (get_or kept b false))

pub mark_past : (pages row b : ℕ) (kept : List Bool) → b < length kept → length kept ≤ row / pages → get_or kept b false ≡ (get_or kept b false || is_in_block pages b (Some row))
mark_past pages row b kept l past = sym (ap (λ t. get_or kept b false || t) (ne_eqb (row / pages) b (λ e. absurd (omega arith))) ∙ or_false (get_or kept b false))

pub mark_set : (pages row block b : ℕ) (kept : List Bool) → block ≡ row / pages → block < length kept → get_or (set kept block true) b false ≡ (get_or kept b false || is_in_block pages b (Some row))
mark_set pages row block b kept is within = elim (cases_eq b block) [
  | inl same ↦
      ap (λ j. get_or (set kept block true) j false) same
      ∙ (get_or-set_same kept block true false within ∙ sym (ap (λ t. get_or kept b false || t) (eq-eqb (row / pages) b (sym is ∙ sym same)) ∙ or_true (get_or kept b false)))
  | inr ne ↦ get_or-set_other kept block b true false ne ∙ sym (ap (λ t. get_or kept b false || t) (ne_eqb (row / pages) b (λ e. ne (sym e ∙ sym is))) ∙ or_false (get_or kept b false))
]

-- no block is marked at first
pub none_kept : (n b : ℕ) → get_or (replicate n false) b false ≡ false
none_kept zero b = refl
none_kept (suc n) zero = refl
none_kept (suc n) (suc b) = none_kept n b

pub marked_start : (pages : ℕ) (traces : List Trace) (kept : List Bool) → ((b : ℕ) → get_or kept b false ≡ false) → AreMarked pages traces 0 kept
marked_start pages traces kept none = record { each = λ b k. none b }

-- ---- what the newest table names a block

four : (a b c d e f g h : ℕ) → a ≡ e → b ≡ f → c ≡ g → d ≡ h → from_le_bytes w32 (a ∷ b ∷ c ∷ d ∷ []) ≡ from_le_bytes w32 (e ∷ f ∷ g ∷ h ∷ [])
four a b c d e f g h p q r s = rw (p, q, r, s) refl

word_same : (xs ys : List ℕ) (n j : ℕ) → ((i : ℕ) → i < n → slice_index xs i ≡ slice_index ys i) → j + 4 ≤ n → word_at xs j ≡ word_at ys j
word_same xs ys n j h l = four _ _ _ _ _ _ _ _ (h j (omega arith)) (h (j + 1) (omega arith)) (h (j + 2) (omega arith)) (h (j + 3) (omega arith))

read_in : (xs : List ℕ) (at size i j : ℕ) → j ≡ at + i → i < size → slice_index (slice_range xs at (at + size)) i ≡ get_or xs j 0
read_in xs at size i j e l = grind (arith, places)

pub entries_some : (g : Geometry) → 0 < entries g
entries_some g = let least = g.limits.data_size.least in omega arith

pub class_read : (g : Geometry) (image : Image) (tables body : List ℕ) (block row : ℕ) → length image ≡ row_count g → HasTableBytes g image (row_count g) tables → block / entries g < table_pages g
    → place_of (latest_below (marks image) (Table (block / entries g)) (row_count g)) ≡ Some row → 0 < entries g
    → body ≡ slice_range tables (block / entries g * g.data_bytes) (block / entries g * g.data_bytes + g.data_bytes)
    → word_at body (4 * (block % entries g)) % 256 ≡ table_class g image block
unfolding word_of_block table_body
class_read g image tables body block row size h within at some is =
    let u = block / entries g in
    let newest_is : newest (marks image) (Table u) ≡ Some row = latest-newest (marks image) (Table u) ∙ (ap (λ n. place_of (latest_below (marks image) (Table u) n)) (length-marks image ∙ size) ∙ at) in
    let low = mod-lt block some in
    ap (λ w. w % 256)
    (word_same body (body_in image (newest (marks image) (Table u))) (4 * entries g) (4 * (block % entries g))
    (λ i l.
    let in_page : i < g.data_bytes = omega arith in
    ap (λ b. slice_index b i) is ∙ (read_in tables (u * g.data_bytes) g.data_bytes i (u * g.data_bytes + i) refl in_page
    ∙ (h.at u row i within in_page at ∙ ap (λ r. slice_index (body_in image r) i) (sym newest_is)))) (omega arith))

pub class_none : (g : Geometry) (image : Image) (block : ℕ) → length image ≡ row_count g → place_of (latest_below (marks image) (Table (block / entries g)) (row_count g)) ≡ None → 0 ≡ table_class g image block
unfolding word_of_block table_body
class_none g image block size at =
    let u = block / entries g in
    let none : newest (marks image) (Table u) ≡ None = latest-newest (marks image) (Table u) ∙ (ap (λ n. place_of (latest_below (marks image) (Table u) n)) (length-marks image ∙ size) ∙ at) in
    sym (ap (λ r. word_at (body_in image r) (4 * (block % entries g)) % 256) none)

-- ---- block by block

-- how many of the rows pass a test, of those of the first blocks that pass another one
abbrev pub below : Geometry → Image → (ℕ → Bool) → (ℕ → Bool) → ℕ → ℕ
below g image test block n = upto (λ row. (test row && block (row / g.pages)) && nat_lt (row / g.pages) n) (length image)

-- how many rows of one block pass
abbrev pub of_block : Geometry → Image → (ℕ → Bool) → ℕ → ℕ
of_block g image test n = upto (λ row. test row && (row / g.pages == n)) (length image)

no_right : (a : Bool) → (a && false) ≡ false
no_right true = refl
no_right false = refl

all_right : (a : Bool) → (a && true) ≡ a
all_right true = refl
all_right false = refl

below_more : (g : Geometry) (image : Image) (test block : ℕ → Bool) (n : ℕ) → below g image test block (n + 1) ≡ below g image test block n + cond (block n) (of_block g image test n) 0
below_more g image test block n =
    upto_sum (λ row. (test row && block (row / g.pages)) && nat_lt (row / g.pages) n) (λ row. (test row && (row / g.pages == n)) && block n)
    (λ row. (test row && block (row / g.pages)) && nat_lt (row / g.pages) (n + 1)) (length image)
    (λ row l. at row (cases_order (row / g.pages) n))
    ∙ ap (λ k. below g image test block n + k) (by (block n) refl)
  where
    at : (row : ℕ) → (row / g.pages ≡ n) ⊎ ((row / g.pages < n) ⊎ (n < row / g.pages))
        → one_if ((test row && block (row / g.pages)) && nat_lt (row / g.pages) (n + 1)) ≡ one_if
        ((test row && block (row / g.pages)) && nat_lt (row / g.pages) n) + one_if ((test row && (row / g.pages == n)) && block n)
    at row (inl same) =
        let a : one_if ((test row && block (row / g.pages)) && nat_lt (row / g.pages) (n + 1)) ≡ one_if (test row && block n) = ap
        (λ b. one_if ((test row && block (row / g.pages)) && b)) (lt-ltb (row / g.pages) (n + 1) (omega arith)) ∙
        (ap one_if (all_right (test row && block (row / g.pages))) ∙ ap (λ k. one_if (test row && block k)) same) in
        let b : one_if ((test row && block (row / g.pages)) && nat_lt (row / g.pages) n) ≡ 0 = ap (λ b. one_if ((test row && block (row / g.pages)) && b)) (le-ltb (row / g.pages) n (omega arith)) ∙ ap one_if (no_right (test row && block (row / g.pages))) in
        let c : one_if ((test row && (row / g.pages == n)) && block n) ≡ one_if (test row && block n) = ap (λ b. one_if ((test row && b) && block n)) (eq-eqb (row / g.pages) n same) ∙ ap (λ b. one_if (b && block n)) (all_right (test row)) in
        omega arith
    at row (inr (inl less)) =
        let a : one_if ((test row && block (row / g.pages)) && nat_lt (row / g.pages) (n + 1)) ≡ one_if (test row && block (row / g.pages)) = ap
        (λ b. one_if ((test row && block (row / g.pages)) && b)) (lt-ltb (row / g.pages) (n + 1) (omega arith)) ∙ ap one_if
        (all_right (test row && block (row / g.pages))) in
        let b : one_if ((test row && block (row / g.pages)) && nat_lt (row / g.pages) n) ≡ one_if (test row && block (row / g.pages)) = ap (λ b. one_if ((test row && block (row / g.pages)) && b)) (lt-ltb (row / g.pages) n less) ∙ ap one_if (all_right (test row && block (row / g.pages))) in
        let c : one_if ((test row && (row / g.pages == n)) && block n) ≡ 0 = ap (λ b. one_if ((test row && b) && block n)) (ne_eqb (row / g.pages) n (λ e. absurd (omega arith))) ∙ ap (λ b. one_if (b && block n)) (no_right (test row)) in
        omega arith
    at row (inr (inr more)) =
        let a : one_if ((test row && block (row / g.pages)) && nat_lt (row / g.pages) (n + 1)) ≡ 0 = ap (λ b. one_if ((test row && block (row / g.pages)) && b)) (le-ltb (row / g.pages) (n + 1) (omega arith)) ∙ ap one_if (no_right (test row && block (row / g.pages))) in
        let b : one_if ((test row && block (row / g.pages)) && nat_lt (row / g.pages) n) ≡ 0 = ap (λ b. one_if ((test row && block (row / g.pages)) && b)) (le-ltb (row / g.pages) n (omega arith)) ∙ ap one_if (no_right (test row && block (row / g.pages))) in
        let c : one_if ((test row && (row / g.pages == n)) && block n) ≡ 0 = ap (λ b. one_if ((test row && b) && block n)) (ne_eqb (row / g.pages) n (λ e. absurd (omega arith))) ∙ ap (λ b. one_if (b && block n)) (no_right (test row)) in
        omega arith

    by : (b : Bool) → block n ≡ b → upto (λ row. (test row && (row / g.pages == n)) && block n) (length image) ≡ cond (block n) (of_block g image test n) 0
    by true e = upto_same (λ row. (test row && (row / g.pages == n)) && block n) (λ row. test row && (row / g.pages == n)) (length image)
        (λ row l. ap (λ b. (test row && (row / g.pages == n)) && b) e ∙ all_right (test row && (row / g.pages == n)))
        ∙ ap (λ b. cond b (of_block g image test n) 0) (sym e)
    by false e = upto_none (λ row. (test row && (row / g.pages == n)) && block n) (length image) (λ row l. ap (λ b. (test row && (row / g.pages == n)) && b) e ∙ no_right (test row && (row / g.pages == n))) ∙ ap (λ b. cond b (of_block g image test n) 0) (sym e)

below_none : (g : Geometry) (image : Image) (test block : ℕ → Bool) → below g image test block 0 ≡ 0
below_none g image test block = upto_none (λ row. (test row && block (row / g.pages)) && nat_lt (row / g.pages) 0) (length image) (λ row l. ap (λ b. (test row && block (row / g.pages)) && b) (le-ltb (row / g.pages) 0 (omega arith)) ∙ no_right (test row && block (row / g.pages)))

-- in the end they are those of all blocks
below_all : (g : Geometry) (image : Image) (test block : ℕ → Bool) → length image ≡ row_count g → below g image test block g.blocks ≡ rows_passing g image test block
unfolding rows_passing
below_all g image test block size =
    upto_same (λ row. (test row && block (row / g.pages)) && nat_lt (row / g.pages) g.blocks) (λ row. test row && block (row / g.pages)) (length image)
    (λ row l. ap (λ b. (test row && block (row / g.pages)) && b) (lt-ltb (row / g.pages) g.blocks ((div-lt_iff_lt-mul (some_pages g)).1 (omega arith))) ∙ all_right (test row && block (row / g.pages)))

upto_few : (f : ℕ → Bool) (n : ℕ) → upto f n ≤ n
upto_few f zero = omega arith
upto_few f (suc n) = let rest = upto_few f n in let more = upto_more f n in let small = few (f n) in omega arith
  where
    few : (b : Bool) → one_if b ≤ 1
    few true = omega arith
    few false = omega arith

-- what is open is the sum of the first blocks'
pub record AreSummed (g : Geometry) (image : Image) (n : ℕ) (d : Doubts) : Type 0 where
  pub unsound_is : d.unsound ≡ below g image (is_unsound_at image) (λ b. not (is_excused g image b)) n
  pub holes_is : d.holes ≡ below g image (is_hole g image) (λ b. not (is_excused g image b)) n
  pub factory_is : d.factory ≡ below g image (is_unsound_at image) (is_factory g image) n + below g image (is_hole g image) (is_factory g image) n
  pub rewritten_is : d.rewritten ≡ below g image (is_unsound_at image) (is_rewritten g image) n + below g image (is_hole g image) (is_rewritten g image) n
  pub outside_is : d.outside ≡ count_by (λ p. is_record_past g (record_of p)) image

pub summed_start : (g : Geometry) (image : Image) (d : Doubts) → d.unsound ≡ 0 → d.holes ≡ 0 → d.factory ≡ 0 → d.rewritten ≡ 0 → d.outside ≡ count_by (λ p. is_record_past g (record_of p)) image → AreSummed g image 0 d
summed_start g image d unsound holes factory rewritten outside =
    let a = below_none g image (is_unsound_at image) (λ b. not (is_excused g image b)) in
    let b = below_none g image (is_hole g image) (λ b. not (is_excused g image b)) in
    let c = below_none g image (is_unsound_at image) (is_factory g image) in
    let e = below_none g image (is_hole g image) (is_factory g image) in
    let f = below_none g image (is_unsound_at image) (is_rewritten g image) in
    let h = below_none g image (is_hole g image) (is_rewritten g image) in
    record { unsound_is = omega arith; holes_is = omega arith; factory_is = omega arith; rewritten_is = omega arith; outside_is = outside }

fits : (n : ℕ) → n < 2 ^ 32 → capped n ≡ n
fits n l = omega arith

-- no block is both
pub factory_alone : (g : Geometry) (image : Image) (block : ℕ) → is_factory g image block ≡ true → is_rewritten g image block ≡ false
unfolding is_rewritten
factory_alone g image block e =
    let one_is : table_class g image block ≡ 1 = eqb-true (table_class g image block) 1 e in
    ap (λ b. b && (is_plain g image && not (keeps_below g image (key_count g) block))) (ne_eqb (table_class g image block) 2 (λ two. absurd (omega arith)))

pub excuse_is : (g : Geometry) (image : Image) (block class : ℕ) (plain kept : Bool) (x : Excuse) → x ≡ excuse_by class plain kept → class ≡ table_class g image block → plain ≡ is_plain g image → kept ≡ keeps_below g image (key_count g) block → x ≡ excuse_of g image block
unfolding is_rewritten
excuse_is g image block class plain kept x is c p k = is ∙ (ap (λ n. excuse_by n plain kept) c ∙ (ap (λ b. excuse_by (table_class g image block) b kept) p ∙ ap (excuse_by (table_class g image block) (is_plain g image)) k))

-- one block more adds its own where it counts
abbrev IsNext : Geometry → Image → (ℕ → Bool) → (ℕ → Bool) → ℕ → Bool → Type 0
IsNext g image test counts n b = below g image test counts (n + 1) ≡ below g image test counts n + cond b (of_block g image test n) 0

below_next : (g : Geometry) (image : Image) (test counts : ℕ → Bool) (n : ℕ) (b : Bool) → counts n ≡ b → IsNext g image test counts n b
below_next g image test counts n b is = below_more g image test counts n ∙ ap (λ y. below g image test counts n + cond y (of_block g image test n) 0) is

pub summed_more : (g : Geometry) (image : Image) (n unsound holes : ℕ) (d new : Doubts) (x : Excuse) → AreSummed g image n d → length image < 2 ^ 31 → x ≡ excuse_of g image n → unsound ≡ of_block g image (is_unsound_at image) n → holes ≡ of_block g image (is_hole g image) n
    → new ≡ added d x unsound holes → AreSummed g image (n + 1) new
summed_more g image n unsound holes d new x h few is us hs e = subst (AreSummed g image (n + 1)) (sym (e ∙ ap (λ y. added d y unsound holes) is)) (by (is_factory g image n) (is_rewritten g image n) refl refl)
  where
    by : (f r : Bool) → is_factory g image n ≡ f → is_rewritten g image n ≡ r → AreSummed g image (n + 1) (added d (cond (is_factory g image n) Factory (cond (is_rewritten g image n) Rewritten Open)) unsound holes)
    by f r is_f is_r =
        let b1 = upto_few (λ row. (is_unsound_at image row && not (is_excused g image (row / g.pages))) && nat_lt (row / g.pages) (n + 1)) (length image) in
        let b2 = upto_few (λ row. (is_hole g image row && not (is_excused g image (row / g.pages))) && nat_lt (row / g.pages) (n + 1)) (length image) in
        let b3 = upto_few (λ row. (is_unsound_at image row && is_factory g image (row / g.pages)) && nat_lt (row / g.pages) (n + 1)) (length image) in
        let b4 = upto_few (λ row. (is_hole g image row && is_factory g image (row / g.pages)) && nat_lt (row / g.pages) (n + 1)) (length image) in
        let b5 = upto_few (λ row. (is_unsound_at image row && is_rewritten g image (row / g.pages)) && nat_lt (row / g.pages) (n + 1)) (length image) in
        let b6 = upto_few (λ row. (is_hole g image row && is_rewritten g image (row / g.pages)) && nat_lt (row / g.pages) (n + 1)) (length image) in
        let neither : not (is_excused g image n) ≡ not (f || r) = ap (λ y. not (y || is_rewritten g image n)) is_f ∙ ap (λ y. not (f || y)) is_r in
        subst (λ y. AreSummed g image (n + 1) (added d (cond y Factory (cond (is_rewritten g image n) Rewritten Open)) unsound holes)) (sym is_f)
        (subst (λ y. AreSummed g image (n + 1) (added d (cond f Factory (cond y Rewritten Open)) unsound holes)) (sym is_r)
        (cases f r (λ t. sym is_r ∙ factory_alone g image n (is_f ∙ t))
        (below_next g image (is_unsound_at image) (λ b. not (is_excused g image b)) n _ neither) (below_next g image (is_hole g image) (λ b. not (is_excused g image b)) n _ neither)
        (below_next g image (is_unsound_at image) (is_factory g image) n f is_f) (below_next g image (is_hole g image) (is_factory g image) n f is_f)
        (below_next g image (is_unsound_at image) (is_rewritten g image) n r is_r) (below_next g image (is_hole g image) (is_rewritten g image) n r is_r)
        b1 b2 b3 b4 b5 b6))
      where
        -- by the excuse, of which the block has one at most
        cases : (f r : Bool) → (f ≡ true → r ≡ false)
            → IsNext g image (is_unsound_at image) (λ b. not (is_excused g image b)) n (not (f || r)) → IsNext g image (is_hole g image) (λ b. not (is_excused g image b)) n (not (f || r))
            → IsNext g image (is_unsound_at image) (is_factory g image) n f → IsNext g image (is_hole g image) (is_factory g image) n f
            → IsNext g image (is_unsound_at image) (is_rewritten g image) n r → IsNext g image (is_hole g image) (is_rewritten g image) n r
            → below g image (is_unsound_at image) (λ b. not (is_excused g image b)) (n + 1) ≤ length image
            → below g image (is_hole g image) (λ b. not (is_excused g image b)) (n + 1) ≤ length image
            → below g image (is_unsound_at image) (is_factory g image) (n + 1) ≤ length image
            → below g image (is_hole g image) (is_factory g image) (n + 1) ≤ length image
            → below g image (is_unsound_at image) (is_rewritten g image) (n + 1) ≤ length image
            → below g image (is_hole g image) (is_rewritten g image) (n + 1) ≤ length image
            → AreSummed g image (n + 1) (added d (cond f Factory (cond r Rewritten Open)) unsound holes)
        cases true true alone uo ho uf hf ur hr b1 b2 b3 b4 b5 b6 = absurd (true≢false (alone refl))
        cases true false alone uo ho uf hf ur hr b1 b2 b3 b4 b5 b6 = record {
          unsound_is = omega (arith, h.unsound_is);
          holes_is = omega (arith, h.holes_is);
          factory_is = omega (arith, h.factory_is);
          rewritten_is = omega (arith, h.rewritten_is);
          outside_is = h.outside_is;
        }
        cases false true alone uo ho uf hf ur hr b1 b2 b3 b4 b5 b6 = record {
          unsound_is = omega (arith, h.unsound_is);
          holes_is = omega (arith, h.holes_is);
          factory_is = omega (arith, h.factory_is);
          rewritten_is = omega (arith, h.rewritten_is);
          outside_is = h.outside_is;
        }
        cases false false alone uo ho uf hf ur hr b1 b2 b3 b4 b5 b6 = record {
          unsound_is = omega (arith, h.unsound_is);
          holes_is = omega (arith, h.holes_is);
          factory_is = omega (arith, h.factory_is);
          rewritten_is = omega (arith, h.rewritten_is);
          outside_is = h.outside_is;
        }

-- ---- what was counted of a block

pub unsound_is : (g : Geometry) (image : Image) (b : ℕ) → length image ≡ row_count g → unsound_below g image (row_count g) b ≡ of_block g image (is_unsound_at image) b
unfolding unsound_below
unsound_is g image b size = ap (upto (is_unsound_in g image b)) (sym size) ∙ upto_same (is_unsound_in g image b) (λ row. is_unsound_at image row && (row / g.pages == b)) (length image) (λ row l. turn (row / g.pages == b) (slice_get image row))
  where
    turn : (a : Bool) (o : Option Page) → (a && sorts.is_broken_page o) ≡ (has_page is_broken o && a)
    turn true None = refl
    turn false None = refl
    turn true (Some p) = sym (all_right (is_broken p))
    turn false (Some p) = sym (no_right (is_broken p))

pub holes_are : (g : Geometry) (image : Image) (b : ℕ) → length image ≡ row_count g → holes_below g image (row_count g) b ≡ of_block g image (is_hole g image) b
unfolding holes_below is_hole
holes_are g image b size = ap (λ n. upto (λ row. is_hole_below g image n row && (row / g.pages == b)) n) (sym size)

-- a die has few rows
pub few_rows : (g : Geometry) → row_count g < 2 ^ 31
few_rows g =
    let blocks = g.limits.block_count.most in
    let pages = g.limits.page_count.most in
    let room : g.blocks * g.pages ≤ 4096 * g.pages = mul-le-mul_right g.pages blocks in
    omega arith

pub strange_is : (g : Geometry) (image : Image) (d : Doubting) → length image ≡ row_count g → IsDoubting g (row_count g) image d → d.strange ≡ strange_of g image
strange_is g image d size h = h.strange_is ∙ ap (count_by (λ p. sorts.is_outside g (record_of p))) (ap (λ n. take n image) (sym size) ∙ take-length image)

pub outside_are : (g : Geometry) (image : Image) (d : Doubting) → length image ≡ row_count g → IsDoubting g (row_count g) image d → d.outside ≡ count_by (λ p. is_record_past g (record_of p)) image
outside_are g image d size h = h.outside_is ∙ ap (count_by (λ p. is_record_past g (record_of p))) (ap (λ n. take n image) (sym size) ∙ take-length image)

-- why a block leaves nothing open, by what was seen
pub excuse_seen : (g : Geometry) (image : Image) (dt : Doubting) (plain : Bool) (n class : ℕ) (kept : Bool) (x : Excuse) → IsSeen g image dt plain
    → n < g.blocks → class ≡ table_class g image n → kept ≡ get_or dt.kept.items n false → x ≡ excuse_by class plain kept
    → x ≡ excuse_of g image n
excuse_seen g image dt plain n class kept x h within class_is kept_is x_is = excuse_is g image n class plain kept x x_is class_is h.plain_is (kept_is ∙ h.kept_is n within)

-- all was seen, and summed up
pub summed_block : (g : Geometry) (image : Image) (dt : Doubting) (plain : Bool) (n unsound holes : ℕ) (d new : Doubts) (x : Excuse) → length image ≡ row_count g → IsSeen g image dt plain → n < g.blocks → AreSummed g image n d
    → x ≡ excuse_of g image n → unsound ≡ get_or dt.unsound.items n 0 → holes ≡ get_or dt.holes.items n 0 → new ≡ added d x unsound holes → AreSummed g image (n + 1) new
summed_block g image dt plain n unsound holes d new x size h within old excuse unsound_at holes_at e =
    let few = few_rows g in
    summed_more g image n unsound holes d new x old (omega arith) excuse
    (unsound_at ∙ (h.unsound.at n within ∙ unsound_is g image n size)) (holes_at ∙ (h.holes.at n within ∙ holes_are g image n size)) e

-- ---- pages that say something

abbrev pub is_open_page : Geometry → Image → SaidPage → Bool
is_open_page g image x = not (is_excused g image (x.row / g.pages))

open_excuse : (f r : Bool) → one_open (cond f Factory (cond r Rewritten Open)) ≡ one_if (not (f || r))
open_excuse true r = refl
open_excuse false true = refl
open_excuse false false = refl

pub legible_more : (g : Geometry) (image : Image) (said : List SaidPage) (i : ℕ) (d : SaidPage) (block : ℕ) (x : Excuse) (n : ℕ) → i < length said → block ≡ (get_or said i d).row / g.pages → x ≡ excuse_of g image block
    → n ≡ count_by (is_open_page g image) (take i said) → n + one_open x ≡ count_by (is_open_page g image) (take (i + 1) said)
legible_more g image said i d block x n within at is before =
    let y = get_or said i d in
    let more : count_by (is_open_page g image) (take (i + 1) said) ≡ count_by (is_open_page g image) (take i said) + one_if (is_open_page g image y) =
    ap (count_by (is_open_page g image)) (take_more said i d within) ∙ sum_by_push (λ z. cond (is_open_page g image z) 1 0) (take i said) y in
    let here : one_open x ≡ one_if (is_open_page g image y) =
    ap one_open (is ∙ ap (excuse_of g image) at) ∙ open_excuse (is_factory g image (y.row / g.pages)) (is_rewritten g image (y.row / g.pages)) in
    omega arith

pub legible_all : (g : Geometry) (image : Image) (said : List SaidPage) (i n : ℕ) → length image ≡ row_count g → length said ≤ i → said ≡ said_below g image (row_count g) → n ≡ count_by (is_open_page g image) (take i said) → n ≡ legible_of g image
unfolding legible_of
legible_all g image said i n size all is counted =
    counted ∙ (ap (count_by (is_open_page g image)) (take_all i said all ∙ (is ∙ ap (said_below g image) (sym size))))

pub seen_all : (g : Geometry) (image : Image) (dt new : Doubting) (plain : Bool) → length image ≡ row_count g → IsDoubting g (row_count g) image dt → plain ≡ ((dt.strange == 0) && not (ties_in dt.traces.items (length dt.traces.items)))
    → ((b : ℕ) → b < g.blocks → get_or new.kept.items b false ≡ keeps_in g.pages dt.traces.items (length dt.traces.items) b)
    → new.traces ≡ dt.traces → new.tables ≡ dt.tables → new.unsound ≡ dt.unsound → new.holes ≡ dt.holes → new.outside ≡ dt.outside → IsSeen g image new plain
seen_all g image dt new plain size h p kept t b u hs o = record {
  traces = subst (λ (v : Vec Trace). HasTraces g (marks image) (row_count g) v.items) (sym t) h.traces;
  tables = subst (λ (v : Vec ℕ). HasTableBytes g image (row_count g) v.items) (sym b) h.tables;
  unsound = subst (λ (v : Vec ℕ). HasUnsound g image (row_count g) v.items) (sym u) h.unsound;
  holes = subst (λ (v : Vec ℕ). HasHoles g image (row_count g) v.items) (sym hs) h.holes;
  outside_is = o ∙ outside_are g image dt size h;
  plain_is = p ∙ (ap (λ n. (n == 0) && not (ties_in dt.traces.items (length dt.traces.items))) (strange_is g image dt size h) ∙ ap (λ x. (strange_of g image == 0) && not x) (ties_are g image dt.traces.items size h.traces));
  kept_is = λ n l. kept n l ∙ keeps_are g image dt.traces.items n size h.traces;
}

-- the same by what was handed to the functions that looked for ties and marked the blocks
pub seen_marked : (g : Geometry) (image : Image) (dt new : Doubting) (plain : Bool) (tied kept : List Trace) (marked : List Bool) (pages : ℕ) → length image ≡ row_count g → IsDoubting g (row_count g) image dt
    → tied ≡ dt.traces.items → plain ≡ ((dt.strange == 0) && not (ties_in tied (length tied))) → kept ≡ dt.traces.items → pages ≡ g.pages → new.kept.items ≡ marked → length marked ≡ g.blocks
    → ((b : ℕ) → b < length marked → get_or marked b false ≡ keeps_in pages kept (length kept) b)
    → new.traces ≡ dt.traces → new.tables ≡ dt.tables → new.unsound ≡ dt.unsound → new.holes ≡ dt.holes → new.outside ≡ dt.outside → IsSeen g image new plain
seen_marked g image dt new plain tied kept marked pages size h tied_is is kept_is pages_is at few each t b u hs o =
    seen_all g image dt new plain size h (is ∙ ap (λ (xs : List Trace). (dt.strange == 0) && not (ties_in xs (length xs))) tied_is)
    (λ n l. ap (λ (xs : List Bool). get_or xs n false) at ∙ (each n (subst (λ k. n < k) (sym few) l)
    ∙ (ap (λ k. keeps_in k kept (length kept) n) pages_is ∙ ap (λ (xs : List Trace). keeps_in g.pages xs (length xs) n) kept_is))) t b u hs o

pub summed_all : (g : Geometry) (image : Image) (d : Doubts) → length image ≡ row_count g → AreSummed g image g.blocks d → d ≡ doubts_of g image
unfolding doubts_of
summed_all g image d size h =
    let a = h.unsound_is ∙ below_all g image (is_unsound_at image) (λ b. not (is_excused g image b)) size in
    let b = h.holes_is ∙ below_all g image (is_hole g image) (λ b. not (is_excused g image b)) size in
    let c1 = below_all g image (is_unsound_at image) (is_factory g image) size in
    let c2 = below_all g image (is_hole g image) (is_factory g image) size in
    let c : d.factory ≡ doubtful_of g image (is_factory g image) = (let x = h.factory_is in omega arith) in
    let e1 = below_all g image (is_unsound_at image) (is_rewritten g image) size in
    let e2 = below_all g image (is_hole g image) (is_rewritten g image) size in
    let e : d.rewritten ≡ doubtful_of g image (is_rewritten g image) = (let x = h.rewritten_is in omega arith) in
    rw (← a, ← b, ← c, ← e, ← h.outside_is) refl

-- ---- law

pub once_law : ToldOnceLaw
unfolding doubts_of rows_passing holes_of
once_law g image d is = rw is (
    let n = length image in
    let u = three (is_unsound_at image) in
    let h = three (is_hole g image) in
    let broken : upto (is_unsound_at image) n ≡ count_by is_broken image = upto_pages is_broken image n (omega arith) ∙ ap (count_by is_broken) (take-length image) in
    omega arith)
  where
    pairs : (test : ℕ → Bool) → upto (λ row. test row && not (is_rewritten g image (row / g.pages))) (length image) ≡ upto (λ row. test row && not (is_excused g image (row / g.pages))) (length image) + upto (λ row. test row && is_factory g image (row / g.pages)) (length image)
    pairs test = upto_sum (λ row. test row && not (is_excused g image (row / g.pages))) (λ row. test row && is_factory g image (row / g.pages))
        (λ row. test row && not (is_rewritten g image (row / g.pages))) (length image)
        (λ row l. two (test row) (is_factory g image (row / g.pages)) (is_rewritten g image (row / g.pages)) (factory_alone g image (row / g.pages)))
      where
        two : (t f r : Bool) → (f ≡ true → r ≡ false) → one_if (t && not r) ≡ one_if (t && not (f || r)) + one_if (t && f)
        two true true true e = absurd (true≢false (e refl))
        two true true false e = refl
        two true false true e = refl
        two true false false e = refl
        two false f r e = refl

    rest : (test : ℕ → Bool) → upto test (length image) ≡ upto (λ row. test row && not (is_rewritten g image (row / g.pages))) (length image) + upto (λ row. test row && is_rewritten g image (row / g.pages)) (length image)
    rest test = upto_sum (λ row. test row && not (is_rewritten g image (row / g.pages))) (λ row. test row && is_rewritten g image (row / g.pages)) test (length image) (λ row l. either (test row) (is_rewritten g image (row / g.pages)))
      where
        either : (t r : Bool) → one_if t ≡ one_if (t && not r) + one_if (t && r)
        either true true = refl
        either true false = refl
        either false r = refl

    three : (test : ℕ → Bool)
        → upto test (length image) ≡ upto (λ row. test row && not (is_excused g image (row / g.pages))) (length image) + upto
        (λ row. test row && is_factory g image (row / g.pages)) (length image) + upto (λ row. test row && is_rewritten g image (row / g.pages))
        (length image)
    three test = let a = pairs test in let b = rest test in omega arith
