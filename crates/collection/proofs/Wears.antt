-- The erase counts, and what pages tell of them.
use Rattle.std.proofs.Common.{◌≡◌, ◌≢◌, inl, inr, ℕ, ◌/◌, ◌<◌, ◌≤◌, List, length, get_or, Option, Some, None, refl, ap, sym, ◌∙◌, arith}
use Rattle.std.proofs.Common.{get_or-set_other, get_or-set_same}
use Rattle.std.proofs.lemmas.Bool.{cases_eq}
use Rattle.page_layout.specs.declared.geometry.Geometry.{Geometry}
use Rattle.page_layout.specs.declared.record.Record.{Record}
use Rattle.page_layout.specs.Page.{Image}
use Rattle.page_layout.specs.Array.{marks}
use Rattle.bad_blocks.specs.declared.table.TableRow.{TableRow}
use Rattle.bad_blocks.specs.declared.class.Class.TheVariants.{Grown}
use Rattle.bad_blocks.specs.Table.{wear_at, retired, no_table_row, most_wear}
use Rattle.budget.specs.declared.stream.Stream.{Stream}
use Rattle.allocation.specs.State.{State, free_count, AreBlocksSafe}
use Rattle.allocation.specs.Step.{IsNextBlock, taken, without}
use Rattle.collection.specs.Cost.{moved_live}
use Rattle.collection.specs.Truth.{AreWorn}
use Rattle.collection.proofs.Blocks.{taken_table}

-- ---- erase counts that stay

pub wear_retired : (rows : List TableRow) (b c : ℕ) → b < length rows → wear_at (retired rows b) c ≡ wear_at rows c
wear_retired rows b c lt =
    let new : TableRow = record { class = Grown; wear = wear_at rows b } in
    elim (cases_eq c b) [
      | inl same ↦ ap (wear_at (retired rows b)) same ∙ (ap (λ (x : TableRow). x.wear) (get_or-set_same rows b new no_table_row lt) ∙ ap (wear_at rows) (sym same))
      | inr other ↦ ap (λ (x : TableRow). x.wear) (get_or-set_other rows b c new no_table_row other)
    ]

pub failed_wear : (stream : Stream) (block : ℕ) (s : State) → AreBlocksSafe (free_count s) s → IsNextBlock s stream block → (c : ℕ) → wear_at (without block (taken stream block s)).table c ≡ wear_at s.table c
failed_wear stream block s safe next c =
    let same : length (taken stream block s).table ≡ length s.table = ap length (taken_table stream s block) in
    wear_retired (taken stream block s).table block c (omega (arith, safe.table_whole, next.within)) ∙ ap (λ x. wear_at x c) (taken_table stream s block)

pub moved_table : (o : Option ℕ) (block : ℕ) (s : State) → (moved_live o block s).table ≡ s.table
moved_table None block s = refl
moved_table (Some row) block s = refl

pub passed_wear : (o : Option ℕ) (stream : Stream) (block : ℕ) (s : State) (c : ℕ) → wear_at (moved_live o block (taken stream block s)).table c ≡ wear_at s.table c
passed_wear o stream block s c = ap (λ x. wear_at x c) (moved_table o block (taken stream block s) ∙ taken_table stream s block)

-- ---- what pages tell

-- no page has a record that it had not
pub worn_kept : (s t : State) (old new : Image) → t.geometry ≡ s.geometry → ((c : ℕ) → wear_at t.table c ≡ wear_at s.table c) → ((row : ℕ) (x : Record) → get_or (marks new) row None ≡ Some x → get_or (marks old) row None ≡ Some x) → AreWorn old s → AreWorn new t
worn_kept s t old new same wears had w = record {
  most = λ b. omega (arith, wears b, w.most b);
  told = λ row x at.
      let place : row / t.geometry.pages ≡ row / s.geometry.pages = ap (λ (g : Geometry). row / g.pages) same in
      let count : wear_at t.table (row / t.geometry.pages) ≡ wear_at s.table (row / s.geometry.pages) = ap (wear_at t.table) place ∙ wears (row / s.geometry.pages) in
      omega (arith, w.told row x (had row x at));
}

-- and counts only rise
pub worn_grown : (s t : State) (old new : Image) → t.geometry ≡ s.geometry → ((c : ℕ) → wear_at t.table c ≤ most_wear)
    → ((c : ℕ) → wear_at s.table c ≤ wear_at t.table c)
    → ((row : ℕ) (x : Record) → get_or (marks new) row None ≡ Some x → get_or (marks old) row None ≡ Some x) → AreWorn old s → AreWorn new t
worn_grown s t old new same most grows had w = record {
  most = most;
  told = λ row x at.
      let place : row / t.geometry.pages ≡ row / s.geometry.pages = ap (λ (g : Geometry). row / g.pages) same in
      let count : wear_at t.table (row / t.geometry.pages) ≡ wear_at t.table (row / s.geometry.pages) = ap (wear_at t.table) place in
      omega (arith, w.told row x (had row x at), grows (row / s.geometry.pages));
}

-- one page has a new record, which tells its block's erase count
pub worn_put : (s t : State) (row : ℕ) (rec : Record) (old new : Image) → t.geometry ≡ s.geometry → ((c : ℕ) → wear_at t.table c ≡ wear_at s.table c)
    → rec.wear ≡ wear_at s.table (row / s.geometry.pages) → get_or (marks new) row None ≡ Some rec
    → ((q : ℕ) (x : Record) → q ≢ row → get_or (marks new) q None ≡ Some x → get_or (marks old) q None ≡ Some x) → AreWorn old s → AreWorn new t
worn_put s t row rec old new same wears tells here had w = record {
  most = λ b. omega (arith, wears b, w.most b);
  told = λ q x at.
      let place : q / t.geometry.pages ≡ q / s.geometry.pages = ap (λ (g : Geometry). q / g.pages) same in
      let count : wear_at t.table (q / t.geometry.pages) ≡ wear_at s.table (q / s.geometry.pages) = ap (wear_at t.table) place ∙ wears (q / s.geometry.pages) in
      elim (cases_eq q row) [
        | inl is ↦
            let both : Some x ≡ Some rec = sym at ∙ (ap (λ k. get_or (marks new) k None) is ∙ here) in
            let its : x ≡ rec = cc in
            let wear : x.wear ≡ wear_at s.table (q / s.geometry.pages) = ap (λ (r : Record). r.wear) its ∙ (tells ∙ ap (λ k. wear_at s.table (k / s.geometry.pages)) (sym is)) in
            omega arith
        | inr other ↦ omega (arith, w.told q x (had q x other at))
      ];
}
