-- What a certificate gives is safe.
use Rattle.std.proofs.Common.{◌≡◌, ℕ, ◌<◌, min, true, ◌&&◌, ◌==◌, ltb, List, length, map, get_or, Option, Some, refl, ap, sym, subst, ◌∙◌, arith}
use Rattle.std.specs.Prelude.{count_by, position, All}
use Rattle.std.specs.List.{range_with_len}
use Rattle.std.proofs.lemmas.List.{get_or-map, length-map}
use Rattle.std.proofs.lemmas.List.Elements.{All-map}
use Rattle.std.proofs.lemmas.List.Quantifiers.{position-Some}
use Rattle.std.proofs.lemmas.Bool.{eqb-true, and_parts, ltb-true}
use Rattle.page_layout.specs.declared.geometry.Geometry.{Geometry}
use Rattle.bad_blocks.specs.declared.table.TableRow.{TableRow}
use Rattle.bad_blocks.specs.Table.{is_good, is_good_class, is_good_at, no_table_row, HasFittingWear}
use Rattle.certificate.specs.declared.block_state.BlockState.{BlockState}
use Rattle.allocation.specs.declared.fill.Fill.{Fill}
use Rattle.budget.specs.declared.stream.Stream.TheVariants.{Data, Meta}
use Rattle.allocation.specs.State.{no_fill, fill_at, pointer_at, open_of, free_count, IsOpen, AreBlocksSafe}
use Rattle.allocation.specs.Begun.{class_from, row_from, fill_from, begins_open, begun, unused}

abbrev pub no_state : BlockState
no_state = record { class = 0; pointer = 0; live = 0; wear = 0 }

pub counted_rows : (states : List BlockState) → All HasFittingWear (map row_from states)
counted_rows states = All-map HasFittingWear row_from states (λ k d lt. record { most = omega arith })

fill_is : (g : Geometry) (states : List BlockState) (b : ℕ) → b < length states → fill_at (begun g states) b ≡ fill_from g.pages (get_or states b no_state)
fill_is g states b lt = get_or-map (fill_from g.pages) states b no_state no_fill lt

good_is : (g : Geometry) (states : List BlockState) (b : ℕ) → b < length states → is_good_at (begun g states).table b ≡ is_good (row_from (get_or states b no_state))
good_is g states b lt = ap is_good (get_or-map row_from states b no_state no_table_row lt)

-- a block that begins open
pub begun_open : (g : Geometry) (states : List BlockState) (code b : ℕ) → length states ≡ g.blocks → is_good_class (class_from code) ≡ true → position (begins_open code g.pages) states ≡ Some b → IsOpen (begun g states) b × ((get_or states b no_state).class ≡ code)
begun_open g states code b whole good is =
    let found = position-Some (begins_open code g.pages) states b no_state is in
    let st = get_or states b no_state in
    let parts = and_parts ((st.class == code) && ltb 0 st.pointer) (ltb st.pointer g.pages) found.1 in
    let first = and_parts (st.class == code) (ltb 0 st.pointer) parts.0 in
    let class_is : st.class ≡ code = eqb-true st.class code first.0 in
    let begins : 0 < st.pointer = ltb-true 0 st.pointer first.1 in
    let ends : st.pointer < g.pages = ltb-true st.pointer g.pages parts.1 in
    let pointer_is : pointer_at (begun g states) b ≡ min st.pointer g.pages = ap (λ (f : Fill). f.pointer) (fill_is g states b found.0) in (
      record {
        within = omega (arith, found.0);
        good = good_is g states b found.0 ∙ ap (λ c. is_good_class (class_from c)) class_is ∙ good;
        begun = omega arith;
        room = rw pointer_is (omega arith);
      },
      class_is,
    )

pub safe_begun : (free : ℕ) (g : Geometry) (states : List BlockState) → length states ≡ g.blocks → free ≡ free_count (begun g states) → AreBlocksSafe free (begun g states)
safe_begun free g states whole counted = record {
  table_whole = length-map states row_from ∙ whole;
  fills_whole = length-map states (fill_from g.pages) ∙ whole;
  pointers = λ b lt. (let e : pointer_at (begun g states) b ≡ min (get_or states b no_state).pointer g.pages = ap (λ (f : Fill). f.pointer) (fill_is g states b (omega arith)) in rw e (omega arith));
  free_is = counted;
  opened = λ stream. elim stream as (λ t. (b : ℕ) → open_of (begun g states) t ≡ Some b → IsOpen (begun g states) b) [
    | Data ↦ λ b e. (begun_open g states 1 b whole refl e).0
    | Meta ↦ λ b e. (begun_open g states 2 b whole refl e).0
  ];
  apart = λ b d m. (let one = (begun_open g states 1 b whole refl d).1 in let two = (begun_open g states 2 b whole refl m).1 in omega arith);
}

pub safe_begun_read : (free pages : ℕ) (g : Geometry) (states : List BlockState) (table : List TableRow) (fills : List Fill)
    (data_open meta_open : Option ℕ) → length states ≡ g.blocks → pages ≡ g.pages → table ≡ map row_from states
    → fills ≡ map (fill_from pages) states → free ≡ count_by (unused table fills) (range_with_len 0 (length fills))
    → data_open ≡ position (begins_open 1 pages) states → meta_open ≡ position (begins_open 2 pages) states
    → AreBlocksSafe free (record { geometry = g; table = table; fills = fills; data_open = data_open; meta_open = meta_open })
safe_begun_read free pages g states table fills data_open meta_open whole p t f counted d m =
    let fs : fills ≡ map (fill_from g.pages) states = f ∙ ap (λ (x : ℕ). map (fill_from x) states) p in
    let ds : data_open ≡ position (begins_open 1 g.pages) states = d ∙ ap (λ (x : ℕ). position (begins_open 1 x) states) p in
    let ms : meta_open ≡ position (begins_open 2 g.pages) states = m ∙ ap (λ (x : ℕ). position (begins_open 2 x) states) p in
    let n : length fills ≡ g.blocks = ap (λ (x : List Fill). length x) fs ∙ length-map states (fill_from g.pages) ∙ whole in
    let same : free ≡ free_count (begun g states) = counted ∙ ap (λ (x : ℕ). count_by (unused table fills) (range_with_len 0 x)) n ∙ ap
    (λ (x : List TableRow). count_by (unused x fills) (range_with_len 0 g.blocks)) t ∙ ap
    (λ (x : List Fill). count_by (unused (map row_from states) x) (range_with_len 0 g.blocks)) fs in
    subst (λ (x : List TableRow). AreBlocksSafe free (record { geometry = g; table = x; fills = fills; data_open = data_open; meta_open = meta_open })) (sym t)
    (subst (λ (x : List Fill). AreBlocksSafe free (record { geometry = g; table = map row_from states; fills = x; data_open = data_open; meta_open = meta_open })) (sym fs)
    (subst (λ (x : Option ℕ). AreBlocksSafe free (record { geometry = g; table = map row_from states; fills = map (fill_from g.pages) states; data_open = x; meta_open = meta_open })) (sym ds)
    (subst (λ (x : Option ℕ). AreBlocksSafe free (record { geometry = g; table = map row_from states; fills = map (fill_from g.pages) states; data_open = position (begins_open 1 g.pages) states; meta_open = x })) (sym ms)
    (safe_begun free g states whole same))))
