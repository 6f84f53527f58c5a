-- A page of a cached sector is written.
use Rattle.std.proofs.Common.{◌≡◌, ℕ, ◌<◌, List, length, Option, Some, None, IsSome, ap, sym, ◌∙◌, subst, arith}
use Rattle.mapping_cache.specs.Mapping.{MappingState, slot_of}
use Rattle.page_layout.specs.declared.geometry.Geometry.{Geometry}
use Rattle.page_layout.specs.declared.record.Kind.{Kind}
use Rattle.page_layout.specs.declared.record.Key.{Key}
use Rattle.page_layout.specs.declared.record.Key.TheVariants.{Sector}
use Rattle.page_layout.specs.Page.{Image}
use Rattle.page_layout.specs.Key.{key_from}
use Rattle.page_layout.proofs.StepLemmas.{array_written}
use Rattle.collection.specs.State.{Ram}
use Rattle.collection.specs.Pages.{newest_row}
use Rattle.collection.specs.Maps.{IsPageFor}
use Rattle.collection.specs.Truth.{IsTrue}
use Rattle.collection.specs.Safe.{IsOutside}
use Rattle.collection.specs.Settle.{HasPlace, HasNoMore, SetsRow, SetsMapping, SetsDirectory, HasSettled}
use Rattle.collection.specs.Results.{MayPut, IsReplaced, IsWritten}
use Rattle.collection.proofs.Copies.{keys_set}
use Rattle.collection.proofs.Follows.{some_or_none}
use Rattle.collection.proofs.Puts.{leaves_written}

pub may_append : (r : Ram) (image : Image) (kind : Kind) (n : ℕ) (old_row : Option ℕ) (body : List ℕ) → IsTrue None r image → key_from kind n ≡ Sector n → old_row ≡ newest_row image (Sector n) → MayPut kind n old_row body r image
may_append r image kind n old_row body w same is = record {
  truth = w;
  page_for = (let P : Key → Type 0 = λ k. IsPageFor r.geometry image r.mapping body k in let unit : P (Sector n) = tt in subst P (sym same) unit);
  old_row_is = is ∙ ap (newest_row image) (sym same);
}

pub appended : (r r' : Ram) (image image' : Image) (kind : Kind) (n row : ℕ) (body : List ℕ) → key_from kind n ≡ Sector n → n < r.geometry.sectors → IsOutside r row → IsReplaced kind n row body r image r' image' → IsWritten kind n body r image r' image'
appended r r' image image' kind n row body same lt out p = record {
  truth = p.truth;
  array = array_written r.geometry n row _ body image image' lt same p.writes;
  leaves = leaves_written r _ row body image image' p.writes out;
  row = row;
  writes = p.writes;
}

-- a cached sector's row is set: no other sector is moved than before
pub moved_still : (key : Key) (n row : ℕ) (m m' : MappingState) → key ≡ Sector n → IsSome (slot_of m n) → SetsMapping key row m m' → m'.moved ≡ m.moved
moved_still key n row m m' is some s = (let P : Key → Type 0 = λ k. SetsMapping k row m m' in let here : SetsRow n (Some row) m m' = subst P is s in here.unmoved some)

pub has_settled : (g : Geometry) (n row : ℕ) (old new : Ram) (key : Key) → key ≡ Sector n → SetsMapping key row old.mapping new.mapping → SetsDirectory g key row old.directory new.directory → HasSettled n old new
has_settled g n row old new key is sets directory = by (subst (λ (k : Key). SetsMapping k row old.mapping new.mapping × SetsDirectory g k row old.directory new.directory) is (sets, directory))
  where
    by : SetsMapping (Sector n) row old.mapping new.mapping × SetsDirectory g (Sector n) row old.directory new.directory → HasSettled n old new
    by both = record { row = row; sets = both.0; directory = both.1 }

pub no_more_set : (key : Key) (n row : ℕ) (m m' : MappingState) → key ≡ Sector n → IsSome (slot_of m n) → SetsMapping key row m m' → HasNoMore m m'
no_more_set key n row m m' is some s = record {
  limits = (keys_set key row m m' s).limits;
  moved = (let l = ap (λ (l : List (ℕ × ℕ)). length l) (moved_still key n row m m' is some s) in omega arith);
}

-- a cached sector's row has its place
pub place_cached : (m : MappingState) (n : ℕ) → IsSome (slot_of m n) → HasPlace m (Sector n)
place_cached m n some = λ none. absurd (some_or_none (slot_of m n) some none)
