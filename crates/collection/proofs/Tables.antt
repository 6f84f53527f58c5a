-- A table page is written.
use Rattle.std.proofs.Common.{◌≡◌, ◌≢◌, ℕ, ◌+◌, ◌*◌, ◌/◌, List, length, get_or, Option, None, ap, sym, ◌∙◌, arith}
use Rattle.std.specs.Prelude.{All}
use Rattle.std.proofs.lemmas.List.{get_or_default}
use Rattle.page_layout.specs.declared.geometry.Geometry.{Geometry}
use Rattle.page_layout.specs.declared.record.Kind.TheVariants as kind
use Rattle.page_layout.specs.declared.record.Key.TheVariants.{Sector, Table}
use Rattle.page_layout.specs.Page.{Image}
use Rattle.page_layout.specs.Geometry.{entries}
use Rattle.page_layout.proofs.StepLemmas.{array_unwritten}
use Rattle.bad_blocks.specs.declared.table.TableRow.{TableRow}
use Rattle.bad_blocks.specs.Table.{HasFittingWear, no_table_row}
use Rattle.bad_blocks.specs.TablePage.{IsWellFormed, table_bytes}
use Rattle.bad_blocks.proofs.PageLemmas.{table_bytes_page, right_word}
use Rattle.allocation.specs.State.{State}
use Rattle.collection.specs.State.{Ram}
use Rattle.page_layout.proofs.VersionLemmas.{written_not_old}
use Rattle.collection.specs.Pages.{newest_row}
use Rattle.collection.specs.Truth.{IsTrue, AreWorn}
use Rattle.collection.specs.Safe.{IsRam, IsOutside}
use Rattle.collection.specs.Results.{MayPut, IsReplaced, IsTabled}
use Rattle.collection.proofs.Puts.{leaves_written}

pub counted_rows : (image : Image) (s : State) → AreWorn image s → All HasFittingWear s.table
counted_rows image s w k d lt = record { most = (let e : get_or s.table k d ≡ get_or s.table k no_table_row = get_or_default s.table k d no_table_row lt in omega (arith, ap (λ (x : TableRow). x.wear) e, w.most k)) }

-- a page that the table spells is well formed
pub bytes_formed : (n blocks u : ℕ) (rows : List TableRow) → length rows ≡ blocks → All HasFittingWear rows → IsWellFormed n blocks u (table_bytes n rows u)
bytes_formed n blocks u rows size counted = record {
  right = λ i lt. (let word = (table_bytes_page n rows u counted).words i lt in rw (word, ← size) (right_word rows (u * n + i)));
}

-- the bytes that were written into a page buffer
spelled_by : (lent items : List ℕ) (g : Geometry) (rows its : List TableRow) (u : ℕ) → lent ≡ items → length items ≡ g.data_bytes → rows ≡ its → table_bytes (length lent / 4) rows u ≡ table_bytes (entries g) its u
spelled_by lent items g rows its u same whole is = ap (λ n. table_bytes (n / 4) rows u) (ap length same ∙ whole) ∙ ap (λ x. table_bytes (entries g) x u) is

pub spelled_on : (now written lent items : List ℕ) (g : Geometry) (rows its : List TableRow) (u : ℕ) → now ≡ written → written ≡ table_bytes (length lent / 4) rows u → lent ≡ items → length items ≡ g.data_bytes → rows ≡ its
    → now ≡ table_bytes (entries g) its u
spelled_on now written lent items g rows its u set is same whole of_rows = set ∙ (is ∙ spelled_by lent items g rows its u same whole of_rows)

-- what a table page must be for it to be put
pub may_table : (r : Ram) (image : Image) (u : ℕ) (old_row : Option ℕ) (body : List ℕ) → IsRam r → IsTrue None r image → body ≡ table_bytes (entries r.geometry) r.blocks.table u → old_row ≡ newest_row image (Table u) → MayPut kind.Table u old_row body r image
may_table r image u old_row body s w spelled is = record {
  truth = w;
  page_for = rw spelled (bytes_formed (entries r.geometry) r.geometry.blocks u r.blocks.table (s.blocks.table_whole ∙ ap (λ (g : Geometry). g.blocks) s.blocks_of) (counted_rows image r.blocks w.worn));
  old_row_is = is;
}

apart : (u v : ℕ) → v ≢ u → Table u ≢ Table v
apart u v other e = other (let same : u ≡ v = cc in sym same)

no_sector : (u n : ℕ) → Table u ≢ Sector n
no_sector u n e = (let never : ⊥ = cc in never)

pub tabled : (r r' : Ram) (x y : Image) (u row : ℕ) (body : List ℕ) → body ≡ table_bytes (entries r.geometry) r.blocks.table u → IsReplaced kind.Table u row body r x r' y → IsOutside r row → IsTabled u r x r' y
tabled r r' x y u row body spelled p out = record {
  same = record {
    truth = p.truth;
    array = array_unwritten r.geometry _ row body x y (λ n e. no_sector u n e) p.writes;
    leaves = leaves_written r _ row body x y p.writes out;
  };
  now = record { row = row; newest_is = p.writes.newest_now; spelled = p.writes.here ∙ spelled };
  others = λ v rows other h. record {
    row = h.row;
    newest_is = p.writes.newest_others (Table v) (apart u v other) ∙ h.newest_is;
    spelled = p.writes.bodies (Table v) h.row (apart u v other) h.newest_is ∙ h.spelled;
  };
  renewed = λ two. written_not_old r.geometry _ row body x y two p.writes;
}
