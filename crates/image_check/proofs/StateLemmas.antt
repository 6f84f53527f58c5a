-- The state of a block, from what its pages showed and what the table says of it.
use Rattle.std.proofs.Common.{◌≡◌, ℕ, zero, suc, ◌+◌, ◌-◌, ◌*◌, ◌/◌, ◌%◌, ◌<◌, ◌≤◌, Bool, true, false, cond, eqb, ◌&&◌, ◌||◌, max, min, List, []}
use Rattle.std.proofs.Common.{◌∷◌, ◌++◌, length, length-append, get_or, Some, refl, sym, ap, subst, ◌∙◌, ◌⊎◌, inl, inr, arith, slice_get}
use Rattle.std.specs.Prelude.{All, not, nat_le, nat_lt}
use Rattle.std.specs.List.{list_all, list_any, range_with_len}
use Rattle.std.proofs.lemmas.Bool.{cases_order, cases_lt, lt-ltb, eqb-true, and_parts, not-true, not-false}
use Rattle.std.proofs.lemmas.Option.{slice_get-get_or, get_or_from_slice_get}
use Rattle.std.proofs.lemmas.List.{take_all}
use Rattle.std.proofs.Math.Nat.{mul-le-mul_right}
use Rattle.page_layout.specs.declared.geometry.Geometry.{Geometry}
use Rattle.page_layout.specs.Geometry.{row_count}
use Rattle.page_layout.specs.Page.{Page, Image}
use Rattle.page_layout.specs.Sound.{is_erased_page}
use Rattle.page_layout.specs.Live.{live}
use Rattle.page_layout.specs.Array.{marks}
use Rattle.page_layout.specs.Block.{block_pages, is_programmed, is_broken, has_gap, written, top_wear, begins_data, last_sequence}
use Rattle.page_layout.proofs.CountLemmas.{count_by-cons, bit, bit-le}
use Rattle.bad_blocks.specs.declared.class.Class.{Class}
use Rattle.bad_blocks.specs.declared.class.Class.TheVariants.{Good, Factory, Grown}
use Rattle.bad_blocks.specs.declared.table.TableRow.{TableRow}
use Rattle.bad_blocks.specs.TablePage.{code_of_class, word_of, word_or_padding}
use Rattle.bad_blocks.specs.Table.{no_table_row}
use Rattle.certificate.specs.declared.block_state.BlockState.{BlockState}
use Rattle.certificate.specs.Spelling.{FitsBlock}
use Rattle.image_check.specs.declared.look.BlockLook.{BlockLook}
use Rattle.image_check.specs.Blocks.{word_of_block, table_class, table_wear, is_factory, is_grown, is_good_block, is_shown_free, is_partial, is_of_data}
use Rattle.image_check.specs.Blocks.{sequence_of_last, same_test, is_no_rival, is_shown_open, class, pointer, erase_count, block_state, AreStates}
use Rattle.image_check.specs.Blocks.{IsTableOf}
use Rattle.image_check.specs.Survey.{block_look_of, HasLooks, AreLiveCounts}
use Rattle.image_check.specs.Agrees.{AreInRange}
use Rattle.image_check.specs.States.{is_partial_seen, class_seen, pointer_seen, state_seen, IsPartialAt, IsReached, IsTop}
use Rattle.image_check.proofs.LookLemmas.{block_short}
use Rattle.image_check.proofs.LiveMostLemmas.{live_most}

-- ---- counting

any_written : (ps : List Page) → list_any is_programmed ps ≡ nat_lt 0 (written ps)
any_written [] = refl
any_written (p ∷ ps) = step (is_programmed p) refl (any_written ps)
  where
    step : (b : Bool) → is_programmed p ≡ b → list_any is_programmed ps ≡ nat_lt 0 (written ps) → (is_programmed p || list_any is_programmed ps) ≡ nat_lt 0 (written (p ∷ ps))
    step true e h = let n : written (p ∷ ps) ≡ 1 + written ps = count_by-cons is_programmed p ps ∙ ap (λ b. bit b + written ps) e in ap (λ b. b || list_any is_programmed ps) e ∙ sym (ap (nat_lt 0) n ∙ lt-ltb 0 (1 + written ps) (omega arith))
    step false e h = let n : written (p ∷ ps) ≡ written ps = count_by-cons is_programmed p ps ∙ (ap (λ b. bit b + written ps) e ∙ omega arith) in ap (λ b. b || list_any is_programmed ps) e ∙ (h ∙ ap (nat_lt 0) (sym n))

suc_eqb : (n : ℕ) → eqb (suc n) 0 ≡ false
suc_eqb n = (elim (eqb (suc n) 0) as (λ b. (b ≡ true → suc n ≡ 0) → b ≡ false) [ true ↦ λ h. absurd (let e = h refl in omega arith) | false ↦ λ h. refl ]) (eqb-true (suc n) 0)

all_unwritten : (ps : List Page) → list_all is_erased_page ps ≡ eqb (written ps) 0
all_unwritten [] = refl
all_unwritten (p ∷ ps) = step (is_erased_page p) refl (all_unwritten ps)
  where
    step : (b : Bool) → is_erased_page p ≡ b → list_all is_erased_page ps ≡ eqb (written ps) 0 → (is_erased_page p && list_all is_erased_page ps) ≡ eqb (written (p ∷ ps)) 0
    step true e h = let n : written (p ∷ ps) ≡ written ps = count_by-cons is_programmed p ps ∙ (ap (λ b. bit (not b) + written ps) e ∙ omega arith) in ap (λ b. b && list_all is_erased_page ps) e ∙ (h ∙ ap (λ k. eqb k 0) (sym n))
    step false e h = let n : written (p ∷ ps) ≡ suc (written ps) = count_by-cons is_programmed p ps
        ∙ (ap (λ b. bit (not b) + written ps) e ∙ omega arith) in let never : eqb (written (p ∷ ps)) 0 ≡ false = ap (λ k. eqb k 0) n
        ∙ suc_eqb (written ps) in ap (λ b. b && list_all is_erased_page ps) e ∙ sym never

written_most : (ps : List Page) → written ps ≤ length ps
written_most [] = omega arith
written_most (p ∷ ps) = let h = written_most ps in let n = count_by-cons is_programmed p ps in let b = bit-le (is_programmed p) in omega arith

-- ---- one block

-- what a table row and a look have to do with a block of the image
pub record IsSeen (g : Geometry) (image : Image) (b : ℕ) (row : TableRow) (look : BlockLook) : Type 0 where
  pub class_is : table_class g image b ≡ code_of_class row.class
  pub wear_is : table_wear g image b ≡ row.wear
  pub look_is : look ≡ block_look_of (block_pages g image b)

code_low : (c : Class) → code_of_class c < 3
code_low Good = omega arith
code_low Factory = omega arith
code_low Grown = omega arith

code_left : (code wear : ℕ) → code < 3 → (code + 256 * wear) % 256 ≡ code
code_left code wear l = omega arith

wear_left : (code wear : ℕ) → code < 3 → (code + 256 * wear) / 256 ≡ wear
wear_left code wear l = omega arith

-- the look of a whole block
look_whole : (g : Geometry) (image : Image) (looks : List BlockLook) (b : ℕ) → HasLooks g image (row_count g) looks → b < g.blocks → slice_get looks b ≡ Some (block_look_of (block_pages g image b))
look_whole g image looks b h l =
    let short = block_short g image b in
    let room : suc b * g.pages ≤ g.blocks * g.pages = mul-le-mul_right g.pages l in
    let one : suc b * g.pages ≡ b * g.pages + g.pages = omega arith in
    h.at b l ∙ ap (λ ps. Some (block_look_of ps)) (take_all (row_count g - b * g.pages) (block_pages g image b) (omega arith))

pub seen_at : (g : Geometry) (image : Image) (rows : List TableRow) (looks : List BlockLook) (b : ℕ) (row : TableRow) (look : BlockLook)
    → IsTableOf g image rows → HasLooks g image (row_count g) looks → b < g.blocks → slice_get rows b ≡ Some row → slice_get looks b ≡ Some look
    → IsSeen g image b row look
seen_at g image rows looks b row look table h l at_row at_look =
    let word : word_of_block g image b ≡ word_of row = table.word b l ∙ ap word_or_padding at_row in
    let low = code_low row.class in
    record {
      class_is = ap (λ w. w % 256) word ∙ code_left (code_of_class row.class) row.wear low;
      wear_is = ap (λ w. w / 256) word ∙ wear_left (code_of_class row.class) row.wear low;
      look_is = (let both : Some look ≡ Some (block_look_of (block_pages g image b)) = sym at_look ∙ look_whole g image looks b h l in cc);
    }

-- the tests of a block, by its code and by what its pages show
good_by : ℕ → Bool → Bool → Bool
good_by code broken gap = not (eqb code 1) && not (not (eqb code 1) && (eqb code 2 || broken || gap))

partial_by : ℕ → Bool → Bool → Bool → Bool → Bool
unfolding good_by
partial_by code broken gap erased programmed = good_by code broken gap && erased && programmed

class_by : ℕ → Bool → Bool → Bool → Bool → Bool → Bool → Bool → ℕ
unfolding good_by partial_by
class_by code broken gap blank erased programmed first of_data =
    cond (eqb code 1) 4 (cond (not (eqb code 1) && (eqb code 2 || broken || gap)) 5 (
    cond (good_by code broken gap && blank) 0 (
    cond (partial_by code broken gap erased programmed && first) (cond of_data 1 2) 3)))

partial-by : (g : Geometry) (image : Image) (b : ℕ)
    → is_partial g image b ≡ partial_by (table_class g image b) (list_any is_broken (block_pages g image b)) (has_gap (block_pages g image b))
    (list_any is_erased_page (block_pages g image b)) (list_any is_programmed (block_pages g image b))
unfolding is_partial is_good_block partial_by good_by
partial-by g image b = refl

class-by : (g : Geometry) (image : Image) (b : ℕ)
    → class g image b ≡ class_by (table_class g image b) (list_any is_broken (block_pages g image b)) (has_gap (block_pages g image b))
    (list_all is_erased_page (block_pages g image b)) (list_any is_erased_page (block_pages g image b))
    (list_any is_programmed (block_pages g image b)) (list_all (is_no_rival g image b) (range_with_len 0 g.blocks)) (is_of_data g image b)
unfolding class is_shown_free is_shown_open is_partial is_good_block class_by partial_by good_by
class-by g image b = refl

partial_coded : (c : Class) (broken gap erased : Bool) (written last wear : ℕ) (of_data : Bool)
    → is_partial_seen c (record { written = written; erased = erased; broken = broken; gap = gap; of_data = of_data; last = last; wear = wear }) ≡
    partial_by (code_of_class c) broken gap erased (nat_lt 0 written)
unfolding partial_by good_by
partial_coded Good true gap erased written last wear of_data = refl
partial_coded Good false true erased written last wear of_data = refl
partial_coded Good false false true written last wear of_data = refl
partial_coded Good false false false written last wear of_data = refl
partial_coded Factory broken gap erased written last wear of_data = refl
partial_coded Grown broken gap erased written last wear of_data = refl

pub partial_same : (g : Geometry) (image : Image) (b : ℕ) (row : TableRow) (look : BlockLook) → IsSeen g image b row look → is_partial_seen row.class look ≡ is_partial g image b
unfolding block_look_of
partial_same g image b row look h =
    let ps = block_pages g image b in
    let coded = partial_coded row.class (list_any is_broken ps) (has_gap ps) (list_any is_erased_page ps) (written ps) (last_sequence ps) (top_wear ps) (begins_data ps) in
    ap (is_partial_seen row.class) h.look_is
    ∙ (coded
    ∙ (ap (λ p. partial_by (code_of_class row.class) (list_any is_broken ps) (has_gap ps) (list_any is_erased_page ps) p) (sym (any_written ps))
    ∙ (ap (λ k. partial_by k (list_any is_broken ps) (has_gap ps) (list_any is_erased_page ps) (list_any is_programmed ps))
    (sym h.class_is) ∙ sym (partial-by g image b))))

-- ---- the open blocks

bool_same : (a b : Bool) → (a ≡ true → b ≡ true) → (b ≡ true → a ≡ true) → a ≡ b
bool_same true b f g = sym (f refl)
bool_same false true f g = g refl
bool_same false false f g = refl

all_from : (p : ℕ → Bool) (a n : ℕ) → ((c : ℕ) → a ≤ c → c < a + n → p c ≡ true) → list_all p (range_with_len a n) ≡ true
all_from p a zero h = refl
all_from p a (suc n) h = rw (h a (omega arith) (omega arith)) (all_from p (a + 1) n (λ c l m. h c (omega arith) (omega arith)))

all_at : (p : ℕ → Bool) (a n c : ℕ) → list_all p (range_with_len a n) ≡ true → a ≤ c → c < a + n → p c ≡ true
all_at p a zero c h l m = absurd (omega arith)
all_at p a (suc n) c h l m =
    let parts = and_parts (p a) (list_all p (range_with_len (a + 1) n)) h in
    elim (cases_lt a c) [
      | inl below ↦ all_at p (a + 1) n c parts.1 (omega arith) (omega arith)
      | inr same ↦ let e : c ≡ a = omega arith in ap p e ∙ parts.0
    ]

same_refl : (a : Bool) → same_test a a ≡ true
same_refl true = refl
same_refl false = refl

same_eq : (a b : Bool) → same_test a b ≡ true → a ≡ b
same_eq true true e = refl
same_eq true false e = absurd cc
same_eq false true e = absurd cc
same_eq false false e = refl

-- what is known of all blocks
pub record AreSeen (g : Geometry) (image : Image) (rows : List TableRow) (looks : List BlockLook) : Type 0 where
  pub table : IsTableOf g image rows
  pub looked : HasLooks g image (row_count g) looks
  pub size : length rows ≡ length looks

rival_over : (part same below : Bool) → part ≡ true → same ≡ true → (not (part && same) || below) ≡ true → below ≡ true
rival_over true true below e f h = h
rival_over true false below e f h = absurd cc
rival_over false same below e f h = absurd cc

rival_free : (part same below : Bool) → (part ≡ true → same ≡ true → below ≡ true) → (not (part && same) || below) ≡ true
rival_free true true below h = h refl refl
rival_free true false below h = refl
rival_free false same below h = refl

le_of : (m n : ℕ) → nat_le m n ≡ true → m ≤ n
le_of m n e = grind (arith, e)

le_true : (m n : ℕ) → m ≤ n → nat_le m n ≡ true
le_true m n l = grind arith

-- a partial block is open where its last sequence is not below the greatest of its stream
pub first_same : (g : Geometry) (image : Image) (rows : List TableRow) (looks : List BlockLook) (b : ℕ) (row : TableRow) (look : BlockLook) (top : ℕ)
    → AreSeen g image rows looks → b < g.blocks → slice_get rows b ≡ Some row → slice_get looks b ≡ Some look
    → IsTop rows looks g.blocks look.of_data top
    → list_all (is_no_rival g image b) (range_with_len 0 g.blocks) ≡ nat_le top look.last
unfolding block_look_of
first_same g image rows looks b row look top h within at_row at_look is_top = bool_same _ _ to from
  where
    here : IsSeen g image b row look
    here = seen_at g image rows looks b row look h.table h.looked within at_row at_look

    of_data_is : look.of_data ≡ is_of_data g image b
    of_data_is = ap (λ (l : BlockLook). l.of_data) here.look_is

    last_is : look.last ≡ sequence_of_last g image b
    last_is = ap (λ (l : BlockLook). l.last) here.look_is

    to : list_all (is_no_rival g image b) (range_with_len 0 g.blocks) ≡ true → nat_le top look.last ≡ true
    to all = elim is_top.reached [
      | inl none ↦ le_true top look.last (omega arith)
      | inr r ↦
          let there : IsSeen g image r.block r.at.row r.look = seen_at g image rows looks r.block r.at.row r.look h.table h.looked r.within r.at.at_row r.at.at_look in
          let part : is_partial g image r.block ≡ true = sym (partial_same g image r.block r.at.row r.look there) ∙ r.at.partial in
          let stream : is_of_data g image r.block ≡ is_of_data g image b = sym (ap (λ (l : BlockLook). l.of_data) there.look_is) ∙ (r.at.stream ∙ of_data_is) in
          let same : same_test (is_of_data g image r.block) (is_of_data g image b) ≡ true = ap (λ s. same_test s (is_of_data g image b)) stream ∙ same_refl (is_of_data g image b) in
          let below = rival_over _ _ _ part same (all_at (is_no_rival g image b) 0 g.blocks r.block all (omega arith) (omega (arith, r.within))) in
          let le : sequence_of_last g image r.block ≤ sequence_of_last g image b = le_of _ _ below in
          let last : r.look.last ≡ sequence_of_last g image r.block = ap (λ (l : BlockLook). l.last) there.look_is in
          le_true top look.last (omega (arith, le, last, r.is, last_is))
    ]

    from : nat_le top look.last ≡ true → list_all (is_no_rival g image b) (range_with_len 0 g.blocks) ≡ true
    from over = all_from (is_no_rival g image b) 0 g.blocks (λ c low high. rival_free _ _ _ (λ part same.
        let d : TableRow = row in
        let l : BlockLook = look in
        let size = h.table.size in
        let lsize = h.looked.size in
        let at_c : slice_get rows c ≡ Some (get_or rows c d) = slice_get-get_or rows c d (omega arith) in
        let look_c : slice_get looks c ≡ Some (get_or looks c l) = slice_get-get_or looks c l (omega arith) in
        let there : IsSeen g image c (get_or rows c d) (get_or looks c l) = seen_at g image rows looks c (get_or rows c d) (get_or looks c l) h.table h.looked (omega arith) at_c look_c in
        let stream : (get_or looks c l).of_data ≡ look.of_data = ap (λ (x : BlockLook). x.of_data) there.look_is ∙ (same_eq _ _ same ∙ sym of_data_is) in
        let up = is_top.above c (get_or looks c l) (omega arith) (record { row = get_or rows c d; at_row = at_c; at_look = look_c; partial = partial_same g image c (get_or rows c d) (get_or looks c l) there ∙ part; stream = stream }) in
        let last : (get_or looks c l).last ≡ sequence_of_last g image c = ap (λ (x : BlockLook). x.last) there.look_is in
        let le = le_of top look.last over in
        le_true _ _ (omega (arith, up, last, le, last_is))))

-- ---- the class and the numbers

class_coded : (c : Class) (broken gap erased : Bool) (written last wear top : ℕ) (of_data first : Bool) → first ≡ nat_le top last
    → class_seen c (record { written = written; erased = erased; broken = broken; gap = gap; of_data = of_data; last = last; wear = wear }) top ≡
    class_by (code_of_class c) broken gap (eqb written 0) erased (nat_lt 0 written) first of_data
unfolding class_by partial_by good_by
class_coded Factory broken gap erased written last wear top of_data first e = refl
class_coded Grown broken gap erased written last wear top of_data first e = refl
class_coded Good true gap erased written last wear top of_data first e = refl
class_coded Good false true erased written last wear top of_data first e = refl
class_coded Good false false erased zero last wear top of_data first e = refl
class_coded Good false false true (suc written) last wear top of_data first e = rw (e, lt-ltb 0 (suc written) (omega arith)) refl
class_coded Good false false false (suc written) last wear top of_data first e = refl

pub class_same : (g : Geometry) (image : Image) (rows : List TableRow) (looks : List BlockLook) (b : ℕ) (row : TableRow) (look : BlockLook) (top : ℕ)
    → AreSeen g image rows looks → b < g.blocks → slice_get rows b ≡ Some row → slice_get looks b ≡ Some look
    → IsTop rows looks g.blocks look.of_data top → class_seen row.class look top ≡ class g image b
unfolding block_look_of
class_same g image rows looks b row look top h within at_row at_look is_top =
    let here : IsSeen g image b row look = seen_at g image rows looks b row look h.table h.looked within at_row at_look in
    let ps = block_pages g image b in
    let first = list_all (is_no_rival g image b) (range_with_len 0 g.blocks) in
    let last_is : look.last ≡ last_sequence ps = ap (λ (l : BlockLook). l.last) here.look_is in
    let opened : first ≡ nat_le top (last_sequence ps) = first_same g image rows looks b row look top h within at_row at_look is_top ∙ ap (nat_le top) last_is in
    let coded = class_coded row.class (list_any is_broken ps) (has_gap ps) (list_any is_erased_page ps) (written ps) (last_sequence ps) (top_wear ps) top (begins_data ps) first opened in
    ap (λ l. class_seen row.class l top) here.look_is ∙ (coded ∙
    (ap (λ x. class_by (code_of_class row.class) (list_any is_broken ps) (has_gap ps) x (list_any is_erased_page ps) (nat_lt 0 (written ps)) first (begins_data ps)) (sym (all_unwritten ps)) ∙
    (ap (λ x. class_by (code_of_class row.class) (list_any is_broken ps) (has_gap ps) (list_all is_erased_page ps) (list_any is_erased_page ps) x first (begins_data ps)) (sym (any_written ps)) ∙
    (ap (λ k. class_by k (list_any is_broken ps) (has_gap ps) (list_all is_erased_page ps) (list_any is_erased_page ps) (list_any is_programmed ps) first (begins_data ps)) (sym here.class_is) ∙ sym (class-by g image b)))))

pointer_by : ℕ → Bool → Bool → ℕ → ℕ
unfolding good_by
pointer_by code broken gap written = cond (good_by code broken gap) written 0

pointer-by : (g : Geometry) (image : Image) (b : ℕ) → pointer g image b ≡ pointer_by (table_class g image b) (list_any is_broken (block_pages g image b)) (has_gap (block_pages g image b)) (written (block_pages g image b))
unfolding pointer is_good_block pointer_by good_by
pointer-by g image b = refl

cond_most : (b : Bool) (m n most : ℕ) → m ≤ most → n ≤ most → cond b m n ≤ most
cond_most true m n most l k = l
cond_most false m n most l k = k

class_below : (a b c d e : Bool) → cond a 4 (cond b 5 (cond c 0 (cond d (cond e 1 2) 3))) ≤ 5
class_below true b c d e = omega arith
class_below false true c d e = omega arith
class_below false false true d e = omega arith
class_below false false false true true = omega arith
class_below false false false true false = omega arith
class_below false false false false e = omega arith

pub class_most : (g : Geometry) (image : Image) (b : ℕ) → class g image b ≤ 5
unfolding class
class_most g image b = class_below (is_factory g image b) (is_grown g image b) (is_shown_free g image b) (is_shown_open g image b) (is_of_data g image b)

pub pointer_most : (g : Geometry) (image : Image) (b : ℕ) → pointer g image b ≤ g.pages
unfolding pointer
pointer_most g image b = let few = written_most (block_pages g image b) in let short = block_short g image b in cond_most (is_good_block g image b) (written (block_pages g image b)) 0 g.pages (omega arith) (omega arith)

least : (n most : ℕ) → n ≤ most → min n most ≡ n
least n most l = omega arith

pointer_coded : (c : Class) (broken gap erased : Bool) (written last wear : ℕ) (of_data : Bool) → written ≤ 65535
    → pointer_seen c (record { written = written; erased = erased; broken = broken; gap = gap; of_data = of_data; last = last; wear = wear }) ≡
    pointer_by (code_of_class c) broken gap written
unfolding pointer_by good_by
pointer_coded Factory broken gap erased written last wear of_data l = refl
pointer_coded Grown broken gap erased written last wear of_data l = refl
pointer_coded Good true gap erased written last wear of_data l = refl
pointer_coded Good false true erased written last wear of_data l = refl
pointer_coded Good false false erased written last wear of_data l = least written 65535 l

pub pointer_same : (g : Geometry) (image : Image) (b : ℕ) (row : TableRow) (look : BlockLook) → IsSeen g image b row look → pointer_seen row.class look ≡ pointer g image b
unfolding block_look_of
pointer_same g image b row look here =
    let ps = block_pages g image b in
    let short = block_short g image b in
    let few = written_most ps in
    let most = g.limits.page_count.most in
    let coded = pointer_coded row.class (list_any is_broken ps) (has_gap ps) (list_any is_erased_page ps) (written ps) (last_sequence ps) (top_wear ps) (begins_data ps) (omega arith) in
    ap (pointer_seen row.class) here.look_is ∙ (coded ∙ (ap (λ k. pointer_by k (list_any is_broken ps) (has_gap ps) (written ps)) (sym here.class_is) ∙ sym (pointer-by g image b)))

pub wear_same : (g : Geometry) (image : Image) (b : ℕ) (row : TableRow) (look : BlockLook) → IsSeen g image b row look → min (max row.wear look.wear) 16777215 ≡ erase_count g image b
unfolding block_look_of erase_count
wear_same g image b row look here =
    let e : look.wear ≡ top_wear (block_pages g image b) = ap (λ (l : BlockLook). l.wear) here.look_is in
    ap (λ w. min (max w look.wear) 16777215) (sym here.wear_is) ∙ ap (λ w. min (max (table_wear g image b) w) 16777215) e

-- ---- the loops

pub top_start : (rows : List TableRow) (looks : List BlockLook) (of_data : Bool) → IsTop rows looks 0 of_data 0
top_start rows looks of_data = record { above = λ c look l p. absurd (omega arith); reached = inl refl }

-- a block that is not partial, or of the other stream
pub top_kept : (rows : List TableRow) (looks : List BlockLook) (n : ℕ) (of_data : Bool) (top : ℕ) → IsTop rows looks n of_data top → ((look : BlockLook) → IsPartialAt rows looks of_data n look → ⊥) → IsTop rows looks (n + 1) of_data top
top_kept rows looks n of_data top h none = record {
  above = λ c look l p. elim (cases_order c n) [
    | inl same ↦ absurd (none look (subst (λ k. IsPartialAt rows looks of_data k look) same p))
    | inr (inl below) ↦ h.above c look below p
    | inr (inr past) ↦ absurd (omega arith)
  ];
  reached = still rows looks n of_data top h.reached;
}
  where
    still : (rows : List TableRow) (looks : List BlockLook) (n : ℕ) (of_data : Bool) (top : ℕ) → (top ≡ 0) ⊎ IsReached rows looks n of_data top → (top ≡ 0) ⊎ IsReached rows looks (n + 1) of_data top
    still rows looks n of_data top (inl e) = inl e
    still rows looks n of_data top (inr r) = inr (record { block = r.block; look = r.look; within = let l = r.within in omega arith; at = r.at; is = r.is })

pub top_raised : (rows : List TableRow) (looks : List BlockLook) (n : ℕ) (of_data : Bool) (top : ℕ) (look : BlockLook) → IsTop rows looks n of_data top → IsPartialAt rows looks of_data n look → IsTop rows looks (n + 1) of_data (max top look.last)
top_raised rows looks n of_data top look h p = record {
  above = λ c other l q. elim (cases_order c n) [
    | inl same ↦
        let at : slice_get looks n ≡ Some other = ap (slice_get looks) (sym same) ∙ q.at_look in
        let eq : look ≡ other = (let both : Some look ≡ Some other = sym p.at_look ∙ at in cc) in
        let e : look.last ≡ other.last = ap (λ (x : BlockLook). x.last) eq in
        omega arith
    | inr (inl below) ↦ let le = h.above c other below q in omega arith
    | inr (inr past) ↦ absurd (omega arith)
  ];
  reached = elim (cases_lt top look.last) [
    | inl below ↦ inr (record { block = n; look = look; within = omega arith; at = p; is = omega arith })
    | inr over ↦ let e : max top look.last ≡ top = omega arith in subst (λ t. (t ≡ 0) ⊎ IsReached rows looks (n + 1) of_data t) (sym e) (still h.reached)
  ];
}
  where
    still : (top ≡ 0) ⊎ IsReached rows looks n of_data top → (top ≡ 0) ⊎ IsReached rows looks (n + 1) of_data top
    still (inl e) = inl e
    still (inr r) = inr (record { block = r.block; look = r.look; within = let l = r.within in omega arith; at = r.at; is = r.is })

-- what a table says of a block
pub record IsRowAt (rows : List TableRow) (n : ℕ) (class : Class) : Type 0 where
  pub row : TableRow
  pub at : slice_get rows n ≡ Some row
  pub class_is : class ≡ row.class

pub row_at : (rows : List TableRow) (n : ℕ) (class : Class) → n < length rows → class ≡ (get_or rows n no_table_row).class → IsRowAt rows n class
row_at rows n class l h = record { row = get_or rows n no_table_row; at = slice_get-get_or rows n no_table_row l; class_is = h }

pub wear_at : (rows : List TableRow) (n : ℕ) (row : TableRow) (wear : ℕ) → slice_get rows n ≡ Some row → wear ≡ (get_or rows n no_table_row).wear → wear ≡ row.wear
wear_at rows n row wear at h = h ∙ ap (λ (r : TableRow). r.wear) (get_or_from_slice_get rows n row no_table_row at)

some_look : (a b : BlockLook) → Some a ≡ Some b → a ≡ b
some_look a b e = cc

some_row : (a b : TableRow) → Some a ≡ Some b → a ≡ b
some_row a b e = cc

-- block n isn't partial
pub tops_kept : (rows : List TableRow) (looks : List BlockLook) (n : ℕ) (of_data : Bool) (top : ℕ) (class : Class) (look : BlockLook)
    → IsTop rows looks n of_data top → IsRowAt rows n class → slice_get looks n ≡ Some look → is_partial_seen class look ≡ false
    → IsTop rows looks (n + 1) of_data top
tops_kept rows looks n of_data top class look h r at none = top_kept rows looks n of_data top h (λ other p.
    let e = some_look look other (sym at ∙ p.at_look) in
    let f = some_row r.row p.row (sym r.at ∙ p.at_row) in
    let t : is_partial_seen class look ≡ true = ap (λ c. is_partial_seen c look) (r.class_is ∙ ap (λ (x : TableRow). x.class) f) ∙ (ap (is_partial_seen p.row.class) e ∙ p.partial) in
    let clash : true ≡ false = sym t ∙ none in
    cc)

-- block n is partial
tops_by : (rows : List TableRow) (looks : List BlockLook) (n : ℕ) (of_data : Bool) (top t : ℕ) (class : Class) (look : BlockLook) (here : Bool)
    → IsTop rows looks n of_data top → IsRowAt rows n class → slice_get looks n ≡ Some look → is_partial_seen class look ≡ true
    → (here ≡ true → look.of_data ≡ of_data) → (here ≡ false → look.of_data ≡ of_data → ⊥) → t ≡ cond here (max top look.last) top
    → IsTop rows looks (n + 1) of_data t
tops_by rows looks n of_data top t class look true h r at partial on off is =
    subst (λ k. IsTop rows looks (n + 1) of_data k) (sym is) (top_raised rows looks n of_data top look h (record { row = r.row; at_row = r.at; at_look = at; partial = ap (λ c. is_partial_seen c look) (sym r.class_is) ∙ partial; stream = on refl }))
tops_by rows looks n of_data top t class look false h r at partial on off is =
    subst (λ k. IsTop rows looks (n + 1) of_data k) (sym is) (top_kept rows looks n of_data top h (λ other p. off refl (ap (λ (x : BlockLook). x.of_data) (some_look look other (sym at ∙ p.at_look)) ∙ p.stream)))

pub data_raised : (rows : List TableRow) (looks : List BlockLook) (n : ℕ) (top t : ℕ) (class : Class) (look : BlockLook) → IsTop rows looks n true top
    → IsRowAt rows n class → slice_get looks n ≡ Some look → is_partial_seen class look ≡ true → t ≡ cond look.of_data (max top look.last) top
    → IsTop rows looks (n + 1) true t
data_raised rows looks n top t class look h r at partial is = tops_by rows looks n true top t class look look.of_data h r at partial (λ e. e) (λ e f. (let clash : true ≡ false = sym f ∙ e in cc)) is

meta_cond : (b : Bool) (m n : ℕ) → cond b m n ≡ cond (not b) n m
meta_cond true m n = refl
meta_cond false m n = refl

pub meta_raised : (rows : List TableRow) (looks : List BlockLook) (n : ℕ) (top t : ℕ) (class : Class) (look : BlockLook) → IsTop rows looks n false top
    → IsRowAt rows n class → slice_get looks n ≡ Some look → is_partial_seen class look ≡ true → t ≡ cond look.of_data top (max top look.last)
    → IsTop rows looks (n + 1) false t
meta_raised rows looks n top t class look h r at partial is =
    tops_by rows looks n false top t class look (not look.of_data) h r at partial (not-true look.of_data) (λ e f. (let clash : true ≡ false = sym (not-false look.of_data e) ∙ f in cc)) (is ∙ meta_cond look.of_data top (max top look.last))

-- the greatest of the stream that is asked for
pub top_for : (rows : List TableRow) (looks : List BlockLook) (n data_top meta_top t : ℕ) (of_data : Bool) → IsTop rows looks n true data_top → IsTop rows looks n false meta_top → (of_data ≡ true → t ≡ data_top) → (of_data ≡ false → t ≡ meta_top) → IsTop rows looks n of_data t
top_for rows looks n data_top meta_top t true d m on off = subst (λ k. IsTop rows looks n true k) (sym (on refl)) d
top_for rows looks n data_top meta_top t false d m on off = subst (λ k. IsTop rows looks n false k) (sym (off refl)) m

-- the state of a block is by its table row, its look and the greatest sequence of its stream
pub record IsStateAt (rows : List TableRow) (looks : List BlockLook) (counts : List ℕ) (b : ℕ) (states : List BlockState) : Type 0 where
  pub row : TableRow
  pub look : BlockLook
  pub top : ℕ
  pub at_row : slice_get rows b ≡ Some row
  pub at_look : slice_get looks b ≡ Some look
  pub is_top : IsTop rows looks (length looks) look.of_data top
  pub is : slice_get states b ≡ Some (state_seen row.class row.wear look top (get_or counts b 0))

-- the first n states are those of the blocks
pub record AreStatesTo (rows : List TableRow) (looks : List BlockLook) (counts : List ℕ) (n : ℕ) (states : List BlockState) : Type 0 where
  pub size : length states ≡ n
  pub state : (b : ℕ) → b < n → IsStateAt rows looks counts b states

pub state_made : (new : BlockState) (class : Class) (wear : ℕ) (row : TableRow) (look : BlockLook) (top live : ℕ) → new ≡ state_seen class wear look top live → class ≡ row.class → wear ≡ row.wear → new ≡ state_seen row.class row.wear look top live
state_made new class wear row look top live made e f = made ∙ ap (λ c. state_seen c wear look top live) e ∙ ap (λ w. state_seen row.class w look top live) f

pub states_start : (rows : List TableRow) (looks : List BlockLook) (counts : List ℕ) → AreStatesTo rows looks counts 0 []
states_start rows looks counts = record { size = refl; state = λ b l. absurd (omega arith) }

slice_get-push_same : (xs : List BlockState) (x : BlockState) (i : ℕ) → i ≡ length xs → slice_get (xs ++ x ∷ []) i ≡ Some x
slice_get-push_same [] x i e = ap (slice_get (x ∷ [])) e
slice_get-push_same (y ∷ xs) x zero e = absurd (omega arith)
slice_get-push_same (y ∷ xs) x (suc i) e = slice_get-push_same xs x i (omega arith)

slice_get-push_below : (xs : List BlockState) (x : BlockState) (i : ℕ) → i < length xs → slice_get (xs ++ x ∷ []) i ≡ slice_get xs i
slice_get-push_below [] x i l = absurd (omega arith)
slice_get-push_below (y ∷ xs) x zero l = refl
slice_get-push_below (y ∷ xs) x (suc i) l = slice_get-push_below xs x i (omega arith)

pub states_more : (rows : List TableRow) (looks : List BlockLook) (counts : List ℕ) (n : ℕ) (states : List BlockState) (row : TableRow) (look : BlockLook)
    (top : ℕ) (new : BlockState) → AreStatesTo rows looks counts n states → slice_get rows n ≡ Some row → slice_get looks n ≡ Some look
    → IsTop rows looks (length looks) look.of_data top → new ≡ state_seen row.class row.wear look top (get_or counts n 0)
    → AreStatesTo rows looks counts (n + 1) (states ++ new ∷ [])
states_more rows looks counts n states row look top new h at_row at_look is_top is = record {
  size = length-append states (new ∷ []) ∙ ap (λ k. k + 1) h.size;
  state = λ b l. elim (cases_order b n) [
    | inl same ↦ subst (λ k. IsStateAt rows looks counts k (states ++ new ∷ [])) (sym same) (record { row = row; look = look; top = top; at_row = at_row; at_look = at_look; is_top = is_top; is = slice_get-push_same states new n (sym h.size) ∙ ap Some is })
    | inr (inl below) ↦ let old = h.state b below in let size = h.size in record { row = old.row; look = old.look; top = old.top; at_row = old.at_row; at_look = old.at_look; is_top = old.is_top; is = slice_get-push_below states new b (omega arith) ∙ old.is }
    | inr (inr past) ↦ absurd (omega arith)
  ];
}

abbrev make_state : ℕ → ℕ → ℕ → ℕ → BlockState
make_state c p l w = record { class = c; pointer = p; live = l; wear = w }

same_state : (c p l w d q m x : ℕ) → c ≡ d → p ≡ q → l ≡ m → w ≡ x → make_state c p l w ≡ make_state d q m x
same_state c p l w d q m x e f g h = cc

state_same : (g : Geometry) (image : Image) (rows : List TableRow) (looks : List BlockLook) (counts : List ℕ) (b : ℕ) (states : List BlockState)
    → AreInRange g (marks image) → AreSeen g image rows looks → AreLiveCounts g image counts → b < g.blocks → IsStateAt rows looks counts b states
    → slice_get states b ≡ Some (block_state g image b)
state_same g image rows looks counts b states numbers h lives l s =
    let size = h.looked.size in
    let is_top : IsTop rows looks g.blocks s.look.of_data s.top = subst (λ n. IsTop rows looks n s.look.of_data s.top) size s.is_top in
    let here : IsSeen g image b s.row s.look = seen_at g image rows looks b s.row s.look h.table h.looked l s.at_row s.at_look in
    let e1 = class_same g image rows looks b s.row s.look s.top h l s.at_row s.at_look is_top in
    let e2 = pointer_same g image b s.row s.look here in
    let e4 = wear_same g image b s.row s.look here in
    let few = live_most g (marks image) b numbers in
    let most = g.limits.page_count.most in
    let e3 : min (get_or counts b 0) 65535 ≡ live g (marks image) b = ap (λ k. min k 65535) (lives.count b l) ∙ least (live g (marks image) b) 65535 (omega arith) in
    s.is ∙ ap Some (same_state _ _ _ _ _ _ _ _ e1 e2 e3 e4)

pub states_are : (g : Geometry) (image : Image) (rows : List TableRow) (looks : List BlockLook) (counts : List ℕ) (n : ℕ) (states : List BlockState)
    → n ≡ length looks → length rows ≡ length looks → AreInRange g (marks image) → IsTableOf g image rows → HasLooks g image (row_count g) looks
    → AreLiveCounts g image counts → AreStatesTo rows looks counts n states → AreStates g image states
states_are g image rows looks counts n states whole size numbers table looked lives h =
    let lsize = looked.size in
    record {
      size = h.size ∙ (whole ∙ lsize);
      state = λ b l. state_same g image rows looks counts b states numbers (record { table = table; looked = looked; size = size }) lives l (h.state b (omega arith));
    }

-- ---- what fits a certificate, whatever the pages were

seen_below : (a b c d : Bool) → cond a 5 (cond b 0 (cond c (cond d 1 2) 3)) ≤ 5
seen_below true b c d = omega arith
seen_below false true c d = omega arith
seen_below false false true true = omega arith
seen_below false false true false = omega arith
seen_below false false false d = omega arith

class_seen_most : (class : Class) (look : BlockLook) (top : ℕ) → class_seen class look top ≤ 5
class_seen_most Factory look top = omega arith
class_seen_most Grown look top = omega arith
class_seen_most Good look top = seen_below (look.broken || look.gap) (eqb look.written 0) (look.erased && nat_le top look.last) look.of_data

pointer_seen_most : (class : Class) (look : BlockLook) → pointer_seen class look ≤ 65535
pointer_seen_most Factory look = omega arith
pointer_seen_most Grown look = omega arith
pointer_seen_most Good look = cond_most (look.broken || look.gap) 0 (min look.written 65535) 65535 (omega arith) (omega arith)

state_fits : (class : Class) (wear : ℕ) (look : BlockLook) (top live : ℕ) → FitsBlock (state_seen class wear look top live)
state_fits class wear look top live = record {
  class = class_seen_most class look top;
  pointer = let few = pointer_seen_most class look in omega arith;
  live = omega arith;
  wear = omega arith;
}

pub states_fit : (rows : List TableRow) (looks : List BlockLook) (counts : List ℕ) (n : ℕ) (states : List BlockState) → AreStatesTo rows looks counts n states → All FitsBlock states
states_fit rows looks counts n states h = λ k d l.
    let size = h.size in
    let s = h.state k (omega arith) in
    subst FitsBlock (sym (get_or_from_slice_get states k _ d s.is)) (state_fits s.row.class s.row.wear s.look s.top (get_or counts k 0))
