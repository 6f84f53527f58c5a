-- What an attempt to program makes of what the engine knows of the image, where the die is honest.
use Rattle.std.proofs.Common.{◌≡◌, ◌≢◌, inl, inr, ℕ, ◌+◌, ◌*◌, ◌/◌, ◌<◌, ◌≤◌, ◌^◌, true, false, List, length, get_or, slice_get, Option, Some, None}
use Rattle.std.proofs.Common.{IsSome, refl, ap, sym, ◌∙◌, subst, arith}
use Rattle.std.specs.Option.{ForSome}
use Rattle.std.proofs.lemmas.Bool.{cases_eq}
use Rattle.std.proofs.lemmas.Nat.{div-mul-add}
use Rattle.std.proofs.Math.Nat.{div-lt_iff_lt-mul, div-le_self}
use Rattle.std.proofs.lemmas.List.Sums.{count_by-le-length}
use Rattle.page_layout.specs.declared.geometry.Geometry.{Geometry}
use Rattle.page_layout.specs.declared.record.Record.{Record}
use Rattle.page_layout.specs.declared.record.Key.{Key}
use Rattle.page_layout.specs.declared.record.Key.TheVariants.{Table}
use Rattle.page_layout.specs.Page.{Image, IsImage}
use Rattle.page_layout.specs.Key.{key_of}
use Rattle.page_layout.specs.Geometry.{row_count, key_count, entries, table_pages}
use Rattle.page_layout.specs.Live.{IsKeyOf, live, keys, is_in_block}
use Rattle.page_layout.specs.Array.{marks}
use Rattle.page_layout.specs.Change.{IsErasedAt, Keeps, Writes}
use Rattle.page_layout.proofs.NewestLemmas.{newest-within}
use Rattle.page_layout.proofs.LiveLemmas.{live_zero, length-keys}
use Rattle.page_layout.proofs.ArrayLemmas.{length-marks, mark-same}
use Rattle.page_layout.proofs.StepLemmas.{below_more}
use Rattle.page_layout.proofs.KeyLemmas.{cases_key}
use Rattle.page_layout.proofs.ErasedLemmas.{erased_at_unsound}
use Rattle.bad_blocks.specs.Table.{is_good, is_good_at, wear_at}
use Rattle.bad_blocks.specs.TablePage.{IsWellFormed}
use Rattle.allocation.specs.State.{State, pointer_at, live_at}
use Rattle.collection.specs.State.{Ram}
use Rattle.collection.specs.Pages.{newest_row}
use Rattle.collection.specs.Maps.{Maps, IsPageFor}
use Rattle.collection.specs.Truth.{IsTrue, AreFilled, HasFormedTablePage}
use Rattle.collection.specs.Safe.{IsRam}
use Rattle.collection.specs.Results.{CanProgram}
use Rattle.budget.specs.declared.stream.Stream.{Stream}
use Rattle.allocation.specs.State.{free_count}
use Rattle.allocation.specs.Step.{IsNextBlock, taken, without}
use Rattle.collection.specs.Cost.{moved_live}
use Rattle.collection.proofs.Blocks.{IsMade, taken_geometry, failed_bad, made_failed, made_passed, moved_pointer}
use Rattle.collection.proofs.Wears.{worn_kept, worn_put, failed_wear, passed_wear}
use Rattle.collection.proofs.Lives.{live_failed, live_passed}
use Rattle.collection.proofs.Memory.{Ticks}
use Rattle.collection.proofs.MapLemmas.{maps_stays, maps_put}

-- ---- numbers

pub row_in_block : (g : Geometry) (row : ℕ) → row < row_count g → row / g.pages < g.blocks
row_in_block g row lt = (div-lt_iff_lt-mul {k = g.pages} {x = row} {y = g.blocks} (omega (arith, g.limits.page_count.least))).1 lt

pub newest_in : (g : Geometry) (image : Image) (key : Key) (row : ℕ) → length image ≡ row_count g → newest_row image key ≡ Some row → row < row_count g
newest_in g image key row whole is = (let l : row < length (marks image) = newest-within (marks image) key row is in let e : length (marks image) ≡ length image = length-marks image in omega arith)

live_small : (g : Geometry) (image : Image) (b : ℕ) → live g (marks image) b + 1 < 2 ^ 32
unfolding live
live_small g image b =
    let l = count_by-le-length (λ key. is_in_block g.pages b (newest_row image key)) (keys g) in
    let k : length (keys g) ≡ key_count g = length-keys g in
    let t = div-le_self g.sectors (entries g) in
    let u = div-le_self g.blocks (entries g) in
    omega (arith, g.limits.sector_count.most, g.limits.block_count.most)

-- the block of a newest page has a live page
newest_counts : (but : Option Key) (r : Ram) (image : Image) (key : Key) (row : ℕ) → IsRam r → IsTrue but r image → IsKeyOf r.geometry key → newest_row image key ≡ Some row → 0 < live_at r.blocks (row / r.geometry.pages)
newest_counts but r image key row s w of_key is =
    let within : row < row_count r.geometry = newest_in r.geometry image key row w.whole.rows is in
    let block : row / r.geometry.pages < r.geometry.blocks = row_in_block r.geometry row within in
    let exact : live_at r.blocks (row / r.geometry.pages) ≡ live r.geometry (marks image) (row / r.geometry.pages) =
    (let P : Geometry → Type 0 = λ g. (b : ℕ) → b < g.blocks → live_at r.blocks b ≡ live g (marks image) b in subst P s.blocks_of w.live
    (row / r.geometry.pages) block) in
    let some : live r.geometry (marks image) (row / r.geometry.pages) ≢ 0 = λ none. live_zero r.geometry (marks image) (row / r.geometry.pages) row key of_key none is refl in
    omega arith

-- ---- the page that is programmed

pub can_program : (but : Option Key) (r : Ram) (image : Image) (block row : ℕ) (rec : Record) → IsRam r → IsTrue but r image
    → block < r.blocks.geometry.blocks → is_good_at r.blocks.table block ≡ true → pointer_at r.blocks block < r.blocks.geometry.pages
    → row ≡ block * r.blocks.geometry.pages + pointer_at r.blocks block → rec.sequence ≡ r.next → IsKeyOf r.geometry (key_of rec)
    → CanProgram r.geometry row rec image
can_program but r image block row rec s w is_block good room at sequence of_key = record {
  one = w.one;
  unsound = rw at (erased_at_unsound r.geometry image (block * r.blocks.geometry.pages + pointer_at r.blocks block) w.whole (w.filled.erased block (pointer_at r.blocks block) is_block good (omega arith) room));
  below = rw sequence w.below;
  in_range = of_key;
}

-- ---- pages that stay

pub sound_same : (old new : Image) (q : ℕ) → slice_get new q ≡ slice_get old q → IsSome (get_or (marks old) q None) → IsSome (get_or (marks new) q None)
sound_same old new q same is = (let P : Option Record → Type 0 = IsSome in subst P (sym (mark-same new old q same)) is)

pub erased_same : (old new : Image) (q : ℕ) → slice_get new q ≡ slice_get old q → IsErasedAt old q → IsErasedAt new q
erased_same old new q same is = record { its = is.its; at = same ∙ is.at; is = is.is }

-- a row is of one block
rows_apart : (s : State) (block b p row : ℕ) → pointer_at s block < s.geometry.pages → row ≡ block * s.geometry.pages + pointer_at s block → b ≢ block → p < s.geometry.pages → b * s.geometry.pages + p ≢ row
rows_apart s block b p row room at ne lt e = ne (sym (div-mul-add b s.geometry.pages p lt) ∙ (ap (λ k. k / s.geometry.pages) (e ∙ at) ∙ div-mul-add block s.geometry.pages (pointer_at s block) room))

-- an attempt in this row
pub record IsTry (block row : ℕ) (s t : State) (old new : Image) : Type 0 where
  pub is_block : block < s.geometry.blocks
  pub was_good : is_good_at s.table block ≡ true
  pub room : pointer_at s block < s.geometry.pages
  pub row_is : row ≡ block * s.geometry.pages + pointer_at s block
  pub made : IsMade block s t
  pub pointers : (b : ℕ) → b < s.geometry.blocks → pointer_at s b ≤ s.geometry.pages
  pub others : (q : ℕ) → q ≢ row → slice_get new q ≡ slice_get old q

filled_there : (block row : ℕ) (s t : State) (old new : Image) → IsTry block row s t old new → AreFilled old s → (b p : ℕ) → b ≢ block
    → b < s.geometry.blocks → is_good_at t.table b ≡ true → p < s.geometry.pages
    → ((p < pointer_at t b → IsSome (get_or (marks new) (b * s.geometry.pages + p) None))
    × (pointer_at t b ≤ p → IsErasedAt new (b * s.geometry.pages + p)))
filled_there block row s t old new y f b p ne lb good lp =
    let o = y.made.others b ne in
    let was : is_good_at s.table b ≡ true = ap is_good (sym o.row) ∙ good in
    let same : slice_get new (b * s.geometry.pages + p) ≡ slice_get old (b * s.geometry.pages + p) = y.others (b * s.geometry.pages + p) (rows_apart s block b p row y.room y.row_is ne lp) in (
      λ lt. sound_same old new (b * s.geometry.pages + p) same (f.sound b p lb was (omega (arith, o.pointer))),
      λ ge. erased_same old new (b * s.geometry.pages + p) same (f.erased b p lb was (omega (arith, o.pointer)) lp),
    )

-- it failed: the block is bad
pub filled_failed : (block row : ℕ) (s t : State) (old new : Image) → IsTry block row s t old new → is_good_at t.table block ≡ false → AreFilled old s → AreFilled new t
filled_failed block row s t old new y bad f =
    let P : Geometry → Type 0 = λ g.
    ((b p : ℕ) → b < g.blocks → is_good_at t.table b ≡ true → p < pointer_at t b → IsSome (get_or (marks new) (b * g.pages + p) None)) ×
    ((b p : ℕ) → b < g.blocks → is_good_at t.table b ≡ true → pointer_at t b ≤ p → p < g.pages → IsErasedAt new (b * g.pages + p)) in
    let both = subst P (sym y.made.geometry) (
      λ b p lb good lt. (let o = y.made.others b (apart b good) in (filled_there block row s t old new y f b p (apart b good) lb good (omega (arith, y.pointers b lb, o.pointer))).0 lt),
      λ b p lb good ge lp. (filled_there block row s t old new y f b p (apart b good) lb good lp).1 ge,
    ) in
    record { sound = both.0; erased = both.1 }
  where
    apart : (b : ℕ) → is_good_at t.table b ≡ true → b ≢ block
    apart b good same = (let e : is_good_at t.table block ≡ true = ap (is_good_at t.table) (sym same) ∙ good in let no : true ≡ false = sym e ∙ bad in cc)

-- it passed: the row's page is sound
pub filled_passed : (block row : ℕ) (s t : State) (old new : Image) → IsTry block row s t old new → pointer_at t block ≡ pointer_at s block + 1 → IsSome (get_or (marks new) row None) → AreFilled old s → AreFilled new t
filled_passed block row s t old new y pointer here f =
    let P : Geometry → Type 0 = λ g.
    ((b p : ℕ) → b < g.blocks → is_good_at t.table b ≡ true → p < pointer_at t b → IsSome (get_or (marks new) (b * g.pages + p) None)) ×
    ((b p : ℕ) → b < g.blocks → is_good_at t.table b ≡ true → pointer_at t b ≤ p → p < g.pages → IsErasedAt new (b * g.pages + p)) in
    let both = subst P (sym y.made.geometry) (sound, erased) in
    record { sound = both.0; erased = both.1 }
  where
    same_row : (b p : ℕ) → b ≡ block → p ≢ pointer_at s block → b * s.geometry.pages + p ≢ row
    same_row b p same ne e = (let m : b * s.geometry.pages ≡ block * s.geometry.pages = ap (λ k. k * s.geometry.pages) same in ne (omega (arith, y.row_is)))

    sound : (b p : ℕ) → b < s.geometry.blocks → is_good_at t.table b ≡ true → p < pointer_at t b → IsSome (get_or (marks new) (b * s.geometry.pages + p) None)
    sound b p lb good lt = elim (cases_eq b block) [
      | inl same ↦
          let now : pointer_at t b ≡ pointer_at s block + 1 = ap (pointer_at t) same ∙ pointer in
          let was : pointer_at s b ≡ pointer_at s block = ap (pointer_at s) same in
          let m : b * s.geometry.pages ≡ block * s.geometry.pages = ap (λ k. k * s.geometry.pages) same in
          elim (cases_eq p (pointer_at s block)) [
            | inl last ↦ (let e : b * s.geometry.pages + p ≡ row = omega (arith, y.row_is) in rw e here)
            | inr less ↦ sound_same old new (b * s.geometry.pages + p) (y.others (b * s.geometry.pages + p) (same_row b p same less)) (f.sound b p lb (ap (is_good_at s.table) same ∙ y.was_good) (omega arith))
          ]
      | inr ne ↦ (let o = y.made.others b ne in (filled_there block row s t old new y f b p ne lb good (omega (arith, y.pointers b lb, o.pointer))).0 lt)
    ]

    erased : (b p : ℕ) → b < s.geometry.blocks → is_good_at t.table b ≡ true → pointer_at t b ≤ p → p < s.geometry.pages → IsErasedAt new (b * s.geometry.pages + p)
    erased b p lb good ge lp = elim (cases_eq b block) [
      | inl same ↦
          let now : pointer_at t b ≡ pointer_at s block + 1 = ap (pointer_at t) same ∙ pointer in
          let was : pointer_at s b ≡ pointer_at s block = ap (pointer_at s) same in
          erased_same old new (b * s.geometry.pages + p) (y.others (b * s.geometry.pages + p) (same_row b p same (λ e. absurd (omega arith)))) (f.erased b p lb (ap (is_good_at s.table) same ∙ y.was_good) (omega arith) lp)
      | inr ne ↦ (filled_there block row s t old new y f b p ne lb good lp).1 ge
    ]

-- ---- table pages

pub tables_kept : (g : Geometry) (old new : Image) (u : ℕ) → Keeps g old new → HasFormedTablePage g old u → HasFormedTablePage g new u
tables_kept g old new u k h = record { row = h.row; newest_is = k.newest_same (Table u) ∙ h.newest_is; formed = rw (k.bodies (Table u) h.row h.newest_is) h.formed }

pub tables_put : (g : Geometry) (rec : Record) (row : ℕ) (body : List ℕ) (old new : Image) (u : ℕ) → Writes g rec row body old new → (key_of rec ≡ Table u → IsWellFormed (entries g) g.blocks u body) → HasFormedTablePage g old u → HasFormedTablePage g new u
tables_put g rec row body old new u w fits h = elim (cases_key (key_of rec) (Table u)) [
  | inl same ↦ record { row = row; newest_is = ap (newest_row new) (sym same) ∙ w.newest_now; formed = rw w.here (fits same) }
  | inr other ↦ record { row = h.row; newest_is = w.newest_others (Table u) other ∙ h.newest_is; formed = rw (w.bodies (Table u) h.row other h.newest_is) h.formed }
]

-- ---- what is known after it

module _ (but : Option Key) (stream : Stream) (block row : ℕ) (r r' : Ram) (old new : Image) (s : IsRam r) (t : Ticks r r')
    (n : IsNextBlock r.blocks stream block) (at : row ≡ block * r.blocks.geometry.pages + pointer_at r.blocks block) (whole : IsImage r.geometry new)
    (others : (q : ℕ) → q ≢ row → slice_get new q ≡ slice_get old q) where
  a_try : (made : State) → IsMade block r.blocks made → IsTry block row r.blocks made old new
  a_try made m = record { is_block = n.within; was_good = n.good; room = n.room; row_is = at; made = m; pointers = s.blocks.pointers; others = others }

  in_fills : block < length r.blocks.fills
  in_fills = omega (arith, s.blocks.fills_whole, n.within)

  pub true_failed : r'.blocks ≡ without block (taken stream block r.blocks) → IsTrue but r old → Keeps r.geometry old new → IsTrue but r' new
  true_failed is w k =
      let made : IsMade block r.blocks (without block (taken stream block r.blocks)) = made_failed (free_count r.blocks) stream block r.blocks s.blocks n in
      let kept : Keeps r.blocks.geometry old new = (let P : Geometry → Type 0 = λ g. Keeps g old new in subst P (sym s.blocks_of) k) in
      record {
        whole = rw t.geometry whole;
        one = rw t.geometry k.one;
        below = below_more (marks new) r.next r'.next (omega (arith, t.next)) (k.below r.next w.below);
        filled = rw is (filled_failed block row r.blocks (without block (taken stream block r.blocks)) old new (a_try _ made) (failed_bad (free_count r.blocks) stream block r.blocks s.blocks n) w.filled);
        worn = rw is (worn_kept r.blocks (without block (taken stream block r.blocks)) old new (taken_geometry stream r.blocks block) (failed_wear stream block r.blocks s.blocks n) k.records w.worn);
        live = rw is (live_failed stream block r.blocks old new in_fills kept w.live);
        tables = (let e : (u : ℕ) → u < table_pages r.geometry → HasFormedTablePage r.geometry new u = λ u lt. tables_kept r.geometry old new u k (w.tables u lt) in rw t.geometry e);
        maps = (let e : Maps but r.geometry new r.directory r.mapping = maps_stays but r.geometry old new r.directory r.mapping k w.maps in rw (t.geometry, t.directory, t.mapping) e);
      }

module _ (stream : Stream) (block row : ℕ) (rec : Record) (body : List ℕ) (o : Option ℕ) (r r' : Ram) (old new : Image) (s : IsRam r) (t : Ticks r r')
    (n : IsNextBlock r.blocks stream block) (at : row ≡ block * r.blocks.geometry.pages + pointer_at r.blocks block) (whole : IsImage r.geometry new)
    (others : (q : ℕ) → q ≢ row → slice_get new q ≡ slice_get old q) where
  pub true_passed : r'.blocks ≡ moved_live o block (taken stream block r.blocks) → IsTrue None r old → rec.sequence ≡ r.next
      → rec.wear ≡ wear_at r.blocks.table block → IsKeyOf r.geometry (key_of rec) → ForSome o (λ q. q < row_count r.geometry)
      → o ≡ newest_row old (key_of rec) → IsPageFor r.geometry old r.mapping body (key_of rec) → Writes r.geometry rec row body old new
      → IsTrue (Some (key_of rec)) r' new
  true_passed is w sequence wear of_key old_in old_is fits p =
      let g : Geometry = r.geometry in
      let same : r.blocks.geometry ≡ r.geometry = s.blocks_of in
      let written : Writes r.blocks.geometry rec row body old new = (let P : Geometry → Type 0 = λ x. Writes x rec row body old new in subst P (sym same) p) in
      let in_block : ForSome o (λ q. q / r.blocks.geometry.pages < r.blocks.geometry.blocks) = λ q e. rw same (row_in_block r.geometry q (old_in q e)) in
      let counted : ForSome o (λ q. 0 < live_at r.blocks (q / r.blocks.geometry.pages)) = λ q e. rw same (newest_counts None r old (key_of rec) q s w of_key (sym old_is ∙ e)) in
      let made : IsMade block r.blocks (moved_live o block (taken stream block r.blocks)) = made_passed (free_count r.blocks) stream block r.blocks o s.blocks n in_block in
      let lt : block < length r.blocks.fills = omega (arith, s.blocks.fills_whole, n.within) in
      let small : live_at r.blocks block + 1 < 2 ^ 32 = (let k = live_small r.blocks.geometry old block in let e = w.live block n.within in omega arith) in
      let block_is : row / r.blocks.geometry.pages ≡ block = ap (λ k. k / r.blocks.geometry.pages) at ∙ div-mul-add block r.blocks.geometry.pages (pointer_at r.blocks block) n.room in
      let pointer : pointer_at (moved_live o block (taken stream block r.blocks)) block ≡ pointer_at r.blocks block + 1 = moved_pointer (free_count r.blocks) stream block r.blocks o s.blocks n in_block in
      let here : IsSome (get_or (marks new) row None) = rw p.record_here refl in
      record {
        whole = rw t.geometry whole;
        one = rw t.geometry p.one;
        below = below_more (marks new) (rec.sequence + 1) r'.next (omega (arith, t.next, sequence)) p.below;
        filled = rw is (filled_passed block row r.blocks (moved_live o block (taken stream block r.blocks)) old new (record { is_block = n.within; was_good = n.good; room = n.room; row_is = at; made = made; pointers = s.blocks.pointers; others = others }) pointer here w.filled);
        worn = rw is (worn_put r.blocks (moved_live o block (taken stream block r.blocks)) row rec old new made.geometry (passed_wear o stream block r.blocks) (wear ∙ ap (wear_at r.blocks.table) (sym block_is)) p.record_here p.records w.worn);
        live = rw is
            (live_passed stream block row r.blocks rec body o old new lt block_is
            (λ q e.
            (let x = in_block q e in let y = s.blocks.fills_whole in
            (let z : q / r.blocks.geometry.pages < length r.blocks.fills = omega arith in z))) counted small old_is written w.live
            made.geometry);
        tables =
            (let e : (u : ℕ) → u < table_pages r.geometry → HasFormedTablePage r.geometry new u = λ u lt. tables_put r.geometry rec row body old new u p
            (λ key. (let P : Key → Type 0 = λ k. IsPageFor r.geometry old r.mapping body k in subst P key fits)) (w.tables u lt) in rw t.geometry
            e);
        maps = (let e : Maps (Some (key_of rec)) r.geometry new r.directory r.mapping = maps_put r.geometry rec row body old new r.directory r.mapping p fits w.maps in rw (t.geometry, t.directory, t.mapping) e);
      }
