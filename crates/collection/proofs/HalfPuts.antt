-- A page that a fault of the die left behind before its row was set in memory: the image mounts, and its array is the one before the page or after it.
use Rattle.std.proofs.Common.{◌≡◌, ◌≢◌, inl, inr, ℕ, ◌+◌, ◌/◌, ◌<◌, ◌≤◌, ◌^◌, eqb, List, [], ◌∷◌, length, set, Option, Some, None, refl, sym, ap, ◌∙◌, subst, arith}
use Rattle.std.proofs.lemmas.Bool.{cases_eq, eq-eqb}
use Rattle.page_layout.specs.declared.geometry.Geometry.{Geometry}
use Rattle.page_layout.specs.declared.record.Kind.{Kind}
use Rattle.page_layout.specs.declared.record.Kind.TheVariants as kind
use Rattle.page_layout.specs.declared.record.Key.{Key}
use Rattle.page_layout.specs.declared.record.Key.TheVariants.{Sector, Translation, Table}
use Rattle.page_layout.specs.declared.record.Record.{Record}
use Rattle.page_layout.specs.Page.{Image}
use Rattle.page_layout.specs.Key.{key_from, key_of}
use Rattle.page_layout.specs.Live.{IsKeyOf}
use Rattle.page_layout.specs.Array.{array_of, content_of_kind}
use Rattle.page_layout.specs.Change.{Keeps, Writes}
use Rattle.page_layout.specs.Flash.{Flash}
use Rattle.page_layout.specs.Recording.{Recording}
use Rattle.page_layout.proofs.CountLemmas.{bit, count_by-cons}
use Rattle.page_layout.proofs.StepLemmas.{Keeps-trans, Keeps-Writes, array_kept, array_written, array_unwritten}
use Rattle.mapping_cache.specs.declared.slot.Slot.{Slot}
use Rattle.mapping_cache.specs.Mapping.{slot_of, moved_row, moved_room}
use Rattle.promises.specs.Stop.{CutShort, LeavesOnly}
use Rattle.promises.proofs.CutLemmas.{cut_join, cut_more}
use Rattle.image_check.specs.Stale.{stale_count}
use Rattle.image_check.specs.Mountable.{IsOrderly}
use Rattle.image_check.proofs.TornLemmas.{orderly_kept}
use Rattle.collection.specs.State.{Ram}
use Rattle.collection.specs.Safe.{IsRam}
use Rattle.collection.specs.Maps.{Maps, IsPageFor}
use Rattle.collection.specs.Settle.{HasPlace}
use Rattle.collection.specs.Results.{MayPut, array_after}
use Rattle.collection.specs.Stops.{IsHalfPut, IsKeptByStop, IsKeptOrPut, IsKeptOrWritten, IsPutByStop, room_of}
use Rattle.collection.proofs.MapLemmas.{maps_put}
use Rattle.collection.specs.Collect.{waiting}
use Rattle.collection.proofs.Memory.{few_moved, moved_places}
use Rattle.collection.proofs.Mounts.{IsHeld, few_held, orderly, stale_held_but, tables_are}
use Rattle.collection.proofs.Stops.{leaves_more}
use Rattle.collection.proofs.Truths.{tables_put}

-- ---- a page that leaves the array as it is

-- in general
pub put_kept : (kind : Kind) (n : ℕ) (body : List ℕ) (r : Ram) (before left : Image) → array_after r.geometry kind n body (array_of r.geometry before) ≡ array_of r.geometry before
    → IsPutByStop kind n body r before left → IsKeptByStop r before left
put_kept kind n body r before left same put = record {
  array = elim put.array [ inl was ↦ was | inr is ↦ is ∙ same ];
  orderly = put.orderly;
}

-- a translation page, and a table page
pub kept_translation : (t : ℕ) (body : List ℕ) (r : Ram) (before left : Image) → IsPutByStop kind.Translation t body r before left → IsKeptByStop r before left
kept_translation t body r before left put = put_kept kind.Translation t body r before left refl put

pub kept_table : (u : ℕ) (body : List ℕ) (r : Ram) (before left : Image) → IsPutByStop kind.Table u body r before left → IsKeptByStop r before left
kept_table u body r before left put = put_kept kind.Table u body r before left refl put

-- a page that gives its sector what it has already
pub kept_sector : (kind : Kind) (n : ℕ) (body : List ℕ) (r : Ram) (before left : Image) → array_after r.geometry kind n body (array_of r.geometry before) ≡ array_of r.geometry before
    → IsPutByStop kind n body r before left → IsKeptByStop r before left
kept_sector kind n body r before left same put = put_kept kind n body r before left same put

-- ---- the array with the page

half_key : (kind : Kind) (n : ℕ) (body : List ℕ) (g : Geometry) (x left : Image) (h : IsHalfPut kind n body g x left) → key_of h.its ≡ key_from kind n
half_key kind n body g x left h = ap (λ k. key_from k h.its.number) h.of_kind ∙ ap (key_from kind) h.of_number

pub half_array : (kind : Kind) (n : ℕ) (body : List ℕ) (g : Geometry) (x left : Image) → IsKeyOf g (key_from kind n) → IsHalfPut kind n body g x left → array_of g left ≡ array_after g kind n body (array_of g x)
half_array kind.Sector n body g x left lt h = array_written g n h.row h.its body x left lt (half_key kind.Sector n body g x left h) h.writes ∙ ap (λ k. set (array_of g x) n (content_of_kind g k body)) h.of_kind
half_array kind.Trim n body g x left lt h = array_written g n h.row h.its body x left lt (half_key kind.Trim n body g x left h) h.writes ∙ ap (λ k. set (array_of g x) n (content_of_kind g k body)) h.of_kind
half_array kind.Translation n body g x left lt h = array_unwritten g h.its h.row body x left (λ k e. (let other : Translation n ≡ Sector k = sym (half_key kind.Translation n body g x left h) ∙ e in let no : ⊥ = cc in no)) h.writes
half_array kind.Table n body g x left lt h = array_unwritten g h.its h.row body x left (λ k e. (let other : Table n ≡ Sector k = sym (half_key kind.Table n body g x left h) ∙ e in let no : ⊥ = cc in no)) h.writes

-- ---- the stale sectors with the page: all but the page's own are cached or moved, and for that one there is a place

not_sector : (key : Key) (n : ℕ) → key ≢ Sector n → Some key ≢ Some (Sector n)
not_sector key n ne e = (let same : key ≡ Sector n = cc in ne same)

few_but : (a : Ram) (left : Image) (key : Key) → IsRam a → HasPlace a.mapping key → Maps (Some key) a.geometry left a.directory a.mapping → stale_count a.geometry left ≤ room_of a
few_but a left key s place maps = by key place maps
  where
    none_more : length a.mapping.moved + 0 ≤ waiting a + a.geometry.pages
    none_more = (let few = few_moved a s in omega arith)

    -- a sector that is held already
    held : (n : ℕ) → IsHeld a.mapping n → Maps (Some (Sector n)) a.geometry left a.directory a.mapping → stale_count a.geometry left ≤ room_of a
    held n is maps = few_held a left [] s none_more (λ k lt old. elim (cases_eq k n) [
      | inl same ↦ inl (subst (λ j. IsHeld a.mapping j) (sym same) is)
      | inr ne ↦ inl (stale_held_but (Some (Sector n)) a left k maps (not_sector (Sector n) k (λ e. (let same : k ≡ n = cc in ne same))) lt old)
    ])

    -- one that is to be moved
    moves : (n : ℕ) → length a.mapping.moved < moved_room a.mapping.geometry a.mapping.share → Maps (Some (Sector n)) a.geometry left a.directory a.mapping → stale_count a.geometry left ≤ room_of a
    moves n room maps =
        let more : length a.mapping.moved + 1 ≤ waiting a + a.geometry.pages = (let places = moved_places a s in omega (arith, places, room)) in
        few_held a left (n ∷ []) s more (λ k lt old. elim (cases_eq k n) [
          | inl same ↦
              let whole : n / 1 ≡ k = omega arith in
              inr (let one : bit (eqb (n / 1) k) ≡ 1 = ap bit (eq-eqb (n / 1) k whole) in omega (arith, count_by-cons (λ j. eqb (j / 1) k) n [], one))
          | inr ne ↦ inl (stale_held_but (Some (Sector n)) a left k maps (not_sector (Sector n) k (λ e. (let same : k ≡ n = cc in ne same))) lt old)
        ])

    by_sector : (n : ℕ) (slot : Option Slot) (row : Option ℕ) → slot_of a.mapping n ≡ slot → moved_row a.mapping n ≡ row → HasPlace a.mapping (Sector n) → Maps (Some (Sector n)) a.geometry left a.directory a.mapping → stale_count a.geometry left ≤ room_of a
    by_sector n (Some slot) row e f place maps = held n (inl (rw e refl)) maps
    by_sector n None (Some row) e f place maps = held n (inr (rw f refl)) maps
    by_sector n None None e f place maps = moves n (place e f) maps

    by : (key : Key) → HasPlace a.mapping key → Maps (Some key) a.geometry left a.directory a.mapping → stale_count a.geometry left ≤ room_of a
    by (Sector n) place maps = by_sector n (slot_of a.mapping n) (moved_row a.mapping n) refl refl place maps
    by (Translation t) place maps = few_held a left [] s none_more (λ k lt old. inl (stale_held_but (Some (Translation t)) a left k maps (not_sector (Translation t) k (λ e. (let no : ⊥ = cc in no))) lt old))
    by (Table u) place maps = few_held a left [] s none_more (λ k lt old. inl (stale_held_but (Some (Table u)) a left k maps (not_sector (Table u) k (λ e. (let no : ⊥ = cc in no))) lt old))

-- ---- it mounts

half_orderly : (a : Ram) (its : Record) (row : ℕ) (body : List ℕ) (x left : Image) (kind : Kind) (n : ℕ) (o : Option ℕ) → IsRam a → MayPut kind n o body a x → key_of its ≡ key_from kind n → HasPlace a.mapping (key_from kind n)
    → its.sequence + 1 < 2 ^ 64 → Writes a.geometry its row body x left → IsOrderly a.geometry (room_of a) left
half_orderly a its row body x left kind n o s may same place more w =
    let fits : IsPageFor a.geometry x a.mapping body (key_of its) = subst (λ k. IsPageFor a.geometry x a.mapping body k) (sym same) may.page_for in
    record {
      numbers = record { in_range = w.one.in_range };
      sequences = w.one.distinct;
      tables = tables_are a.geometry left (λ u lt. tables_put a.geometry its row body x left u w (λ e. (let P : Key → Type 0 = λ k. IsPageFor a.geometry x a.mapping body k in subst P e fits)) (may.truth.tables u lt));
      last = record { below = λ q r at. omega (arith, w.below.below q r at, more) };
      fresh = few_but a left (key_of its) s (subst (λ k. HasPlace a.mapping k) (sym same) place) (maps_put a.geometry its row body x left a.directory a.mapping w fits may.truth.maps);
    }

-- A PAGE WHOSE ROW IS NOT YET SET: memory knows the image but for the page's key, and the mapping has a place for its row
pub half_put_left : (kind : Kind) (n : ℕ) (o : Option ℕ) (body : List ℕ) (a : Ram) (x left : Image) → IsRam a → MayPut kind n o body a x → IsKeyOf a.geometry (key_from kind n) → HasPlace a.mapping (key_from kind n)
    → IsHalfPut kind n body a.geometry x left → IsPutByStop kind n body a x left
half_put_left kind n o body a x left s may of_key place h = record {
  array = inr (half_array kind n body a.geometry x left of_key h);
  orderly = half_orderly a h.its h.row body x left kind n o s may (half_key kind n body a.geometry x left h) place h.more h.writes;
}

-- a page with its tries, of which the last may be there
pub kept_or_put_left : (kind : Kind) (n : ℕ) (o : Option ℕ) (body : List ℕ) (a : Ram) (x left : Image) → IsRam a → MayPut kind n o body a x → IsKeyOf a.geometry (key_from kind n) → HasPlace a.mapping (key_from kind n)
    → IsKeptOrPut kind n body a.geometry x left → IsPutByStop kind n body a x left
kept_or_put_left kind n o body a x left s may of_key place (inl k) = record { array = inl (array_kept a.geometry x left k); orderly = orderly_kept a.geometry (room_of a) x left k (orderly a x s may.truth) }
kept_or_put_left kind n o body a x left s may of_key place (inr h) = half_put_left kind n o body a x left s may of_key place h

pub put_cut : (kind : Kind) (n : ℕ) (o : Option ℕ) (body : List ℕ) (a : Ram) (x : Flash) (rx ry : Option Recording) → IsRam a → MayPut kind n o body a x.image → IsKeyOf a.geometry (key_from kind n) → HasPlace a.mapping (key_from kind n)
    → CutShort x rx ry (IsKeptOrPut kind n body a.geometry x.image) → CutShort x rx ry (IsPutByStop kind n body a x.image)
put_cut kind n o body a x rx ry s may of_key place c = cut_more x rx ry (IsKeptOrPut kind n body a.geometry x.image) (IsPutByStop kind n body a x.image) (λ i k. kept_or_put_left kind n o body a x.image i s may of_key place k) c

-- ---- tries

-- one try
pub try_cut : (kind : Kind) (n row : ℕ) (its : Record) (body body' : List ℕ) (g : Geometry) (x : Flash) (rx ry : Option Recording) → its.kind ≡ kind → its.number ≡ n → its.sequence + 1 < 2 ^ 64 → body' ≡ body
    → CutShort x rx ry (IsKeptOrWritten g its row body' x.image) → CutShort x rx ry (IsKeptOrPut kind n body g x.image)
try_cut kind n row its body body' g x rx ry of_kind of_number more same c = cut_more x rx ry (IsKeptOrWritten g its row body' x.image) (IsKeptOrPut kind n body g x.image) (λ i k. put i k) c
  where
    put : (i : Image) → IsKeptOrWritten g its row body' x.image i → IsKeptOrPut kind n body g x.image i
    put i (inl k) = inl k
    put i (inr w) = inr (record { its = its; row = row; of_kind = of_kind; of_number = of_number; more = more; writes = subst (λ bytes. Writes g its row bytes x.image i) same w })

-- a try after tries that failed
pub tries_cut : (kind : Kind) (n : ℕ) (body body' : List ℕ) (g g' : Geometry) (a b : Flash) (ra rb rc : Option Recording) → body' ≡ body → g' ≡ g → Keeps g a.image b.image → LeavesOnly a b ra rb (Keeps g a.image)
    → CutShort b rb rc (IsKeptOrPut kind n body' g' b.image) → CutShort a ra rc (IsKeptOrPut kind n body g a.image)
tries_cut kind n body body' g g' a b ra rb rc same_body same keeps p q = cut_join a b ra rb rc (IsKeptOrPut kind n body g a.image)
    (leaves_more a b ra rb (Keeps g a.image) (IsKeptOrPut kind n body g a.image) (λ i k. inl k) p)
    (cut_more b rb rc (IsKeptOrPut kind n body' g' b.image) (IsKeptOrPut kind n body g a.image) (λ i k. over i (subst (λ bytes. IsKeptOrPut kind n bytes g b.image i) same_body (subst (λ z. IsKeptOrPut kind n body' z b.image i) same k))) q)
  where
    over : (i : Image) → IsKeptOrPut kind n body g b.image i → IsKeptOrPut kind n body g a.image i
    over i (inl k) = inl (Keeps-trans g a.image b.image i keeps k)
    over i (inr h) = inr (record {
      its = h.its;
      row = h.row;
      of_kind = h.of_kind;
      of_number = h.of_number;
      more = h.more;
      writes = Keeps-Writes g h.its h.row body a.image b.image i keeps h.writes;
    })

-- the data area by another name
pub cut_bytes : (P : List ℕ → Image → Type 0) (bytes bytes' : List ℕ) (x : Flash) (rx ry : Option Recording) → bytes ≡ bytes' → CutShort x rx ry (P bytes) → CutShort x rx ry (P bytes')
cut_bytes P bytes bytes' x rx ry same c = subst (λ b. CutShort x rx ry (P b)) same c
