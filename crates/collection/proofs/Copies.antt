-- A page that counts is copied out of its block.
use Rattle.std.proofs.Common.{◌≡◌, ◌≢◌, inl, inr, ℕ, ◌+◌, ◌-◌, ◌/◌, ◌%◌, ◌<◌, ◌≤◌, ◌==◌, Bool, true, false, List, length, get_or}
use Rattle.std.proofs.Common.{Option, Some, None, Err, refl, ap, sym, ◌∙◌, subst, arith}
use Rattle.std.specs.Option.{ForSome}
use Rattle.std.proofs.lemmas.Bool.{eq-eqb, ne_eqb}
use Rattle.page_layout.specs.declared.geometry.Geometry.{Geometry}
use Rattle.page_layout.specs.declared.record.Record.{Record}
use Rattle.page_layout.specs.declared.record.Kind.{Kind}
use Rattle.page_layout.specs.declared.record.Kind.TheVariants as kind
use Rattle.page_layout.specs.declared.record.Key.{Key}
use Rattle.page_layout.specs.declared.record.Key.TheVariants.{Sector, Translation, Table}
use Rattle.page_layout.specs.Page.{Page, Image, body_at}
use Rattle.page_layout.specs.Key.{key_of, key_from}
use Rattle.page_layout.specs.Geometry.{row_count, entries, translation_pages}
use Rattle.page_layout.specs.Live.{IsKeyOf, live, is_in_block}
use Rattle.page_layout.specs.Array.{marks, sector_of, array_of, content_of_kind}
use Rattle.page_layout.specs.Change.{one_if, Writes}
use Rattle.page_layout.proofs.KeyLemmas.{cases_key}
use Rattle.page_layout.proofs.ArrayLemmas.{sector_here, array-same}
use Rattle.bad_blocks.specs.TablePage.{IsWellFormed}
use Rattle.mapping_cache.specs.Mapping.{MappingState}
use Rattle.translation_pages.specs.TranslationPage.{entry_at}
use Rattle.allocation.specs.State.{live_at}
use Rattle.collection.specs.declared.fault.EngineFault.{EngineFault}
use Rattle.collection.specs.State.{Ram, Pin}
use Rattle.collection.specs.Safe.{IsRam, IsOutside, is_shut}
use Rattle.collection.specs.Pages.{newest_row}
use Rattle.collection.specs.Maps.{IsPageFor}
use Rattle.collection.specs.Truth.{IsTrue, HasFormedTablePage}
use Rattle.collection.specs.Live.{IsLivePage}
use Rattle.collection.specs.Results.{MayPut, IsSame, IsReplaced, IsWrittenBack, IsLastPage, Goes, last_record}
use Rattle.collection.specs.Cost.{HasPut, PutCosts}
use Rattle.collection.specs.Settle.{HasPlace, SetsMapping}
use Rattle.page_layout.proofs.VersionLemmas.{written_not_old}
use Rattle.collection.specs.Collect.{waiting, IsMovedOut, IsRenewed, KeepsKeys, HasCopied, FaultCosts, Refreshes, IsUpToDate, marks_after}
use Rattle.collection.specs.declared.fault.EngineFault.TheVariants.{ReadOnly, SequenceSpent, Damaged, Bus}
use Rattle.budget.specs.declared.stream.Stream.{Stream}
use Rattle.page_layout.proofs.GeometryLemmas.{sector_entry}
use Rattle.std.specs.Map.{keys_of}
use Rattle.collection.proofs.Memory.{moved_places}
use Rattle.collection.proofs.Dues.{HasFollowed, copied_due, copied_refreshes}
use Rattle.collection.proofs.MapLemmas.{entry_here, none_not}
use Rattle.collection.proofs.Puts.{leaves_written, written_keeps}
use Rattle.collection.proofs.Truths.{row_in_block}
use Rattle.collection.proofs.Finds.{gone_copied, newest_mark}

-- the data area of the newest page of a key may be that of another page of it
page_for : (r : Ram) (image : Image) (row : ℕ) (body : List ℕ) (key : Key) → IsTrue None r image → IsKeyOf r.geometry key → newest_row image key ≡ Some row → body_at image row ≡ body → IsPageFor r.geometry image r.mapping body key
page_for r image row body (Sector n) w of_key is holds = tt
page_for r image row body (Translation t) w of_key is holds = λ n lt of_page none.
    let here : newest_row image (Translation (n / entries r.geometry)) ≡ Some row = ap (λ k. newest_row image (Translation k)) of_page ∙ is in
    ap (λ b. entry_at b (n % entries r.geometry)) (sym holds) ∙ (sym (entry_here r.geometry image n row here) ∙ w.maps.entry_is n lt (none_not (Sector n)) none)
page_for r image row body (Table u) w of_key is holds =
    let t : HasFormedTablePage r.geometry image u = w.tables u of_key in
    let e : Some t.row ≡ Some row = sym t.newest_is ∙ is in
    let same : t.row ≡ row = cc in
    let P : List ℕ → Type 0 = λ b. IsWellFormed (entries r.geometry) r.geometry.blocks u b in
    subst P (ap (body_at image) same ∙ holds) t.formed

-- the key of a record is that of its kind and number
pub key_by : (rec : Record) → key_from rec.kind rec.number ≡ key_of rec
key_by rec = refl

pub may_copy : (r : Ram) (image : Image) (row : ℕ) (rec : Record) (body : List ℕ) → IsTrue None r image → IsKeyOf r.geometry (key_of rec) → IsLivePage row body rec image → MayPut rec.kind rec.number (Some row) body r image
may_copy r image row rec body w of_key l = record {
  truth = w;
  page_for = page_for r image row body (key_of rec) w of_key l.newest l.holds;
  old_row_is = sym l.newest;
}

-- ---- the array

copy_array : (g : Geometry) (old new : Image) (row row' : ℕ) (rec copy : Record) (body : List ℕ) → IsLivePage row body rec old → copy.kind ≡ rec.kind → key_of copy ≡ key_of rec → Writes g copy row' body old new → array_of g new ≡ array_of g old
copy_array g old new row row' rec copy body l same_kind same_key w = array-same g old new (λ n. elim (cases_key (key_of copy) (Sector n)) [
  | inl same ↦
      let newest_is : newest_row old (Sector n) ≡ Some row = ap (newest_row old) (sym same ∙ same_key) ∙ l.newest in
      let was : sector_of g old n ≡ content_of_kind g rec.kind (body_at old row) = sector_here g old n row rec newest_is l.mark in
      w.sector_now n same ∙ (ap (λ k. content_of_kind g k body) same_kind ∙ (ap (content_of_kind g rec.kind) (sym l.holds) ∙ sym was))
  | inr other ↦ w.sector_others n other
])

-- ---- the count of the block that it leaves

live_less : (g : Geometry) (old new : Image) (row row' : ℕ) (copy : Record) (body : List ℕ) → Writes g copy row' body old new → newest_row old (key_of copy) ≡ Some row → row' / g.pages ≢ row / g.pages → live g (marks new) (row / g.pages) + 1 ≡ live g (marks old) (row / g.pages)
live_less g old new row row' copy body w is ne =
    let moved = w.live_moved (row / g.pages) in
    let here : one_if (is_in_block g.pages (row / g.pages) (newest_row old (key_of copy))) ≡ 1 = ap (λ o. one_if (is_in_block g.pages (row / g.pages) o)) is ∙ ap one_if (eq-eqb (row / g.pages) (row / g.pages) refl) in
    let there : one_if (row' / g.pages == row / g.pages) ≡ 0 = ap one_if (ne_eqb (row' / g.pages) (row / g.pages) ne) in
    omega (arith, moved, here, there)

pub exact_at : (r : Ram) (image : Image) (b : ℕ) → IsRam r → IsTrue None r image → b < r.geometry.blocks → live_at r.blocks b ≡ live r.geometry (marks image) b
exact_at r image b s w lt = (let P : Geometry → Type 0 = λ g. (k : ℕ) → k < g.blocks → live_at r.blocks k ≡ live g (marks image) k in subst P s.blocks_of w.live b lt)

apart_shut : (r : Ram) (row row' : ℕ) → IsOutside r row' → is_shut r.blocks (row / r.geometry.pages) ≡ true → row' / r.geometry.pages ≢ row / r.geometry.pages
apart_shut r row row' out shut e = (let a : is_shut r.blocks (row' / r.geometry.pages) ≡ true = ap (is_shut r.blocks) e ∙ shut in let no : true ≡ false = sym a ∙ out.outside in let never : ⊥ = cc in never)

-- what a copy is, wherever its page stood
pub renewed_by : (r r' : Ram) (old new : Image) (row row' : ℕ) (rec : Record) (body : List ℕ) → IsLivePage row body rec old → IsOutside r row' → IsReplaced rec.kind rec.number row' body r old r' new → IsRenewed (key_of rec) r old r' new
renewed_by r r' old new row row' rec body l out p = record {
  same = record {
    truth = p.truth;
    array = copy_array r.geometry old new row row' rec (last_record rec.kind rec.number row' r') body l refl refl p.writes;
    leaves = leaves_written r (last_record rec.kind rec.number row' r') row' body old new p.writes out;
  };
  renewed = λ two. written_not_old r.geometry (last_record rec.kind rec.number row' r') row' body old new two p.writes;
  others = λ other ne. written_keeps r.geometry (last_record rec.kind rec.number row' r') row' body old new other ne p.writes;
}

-- a page has left its row for one outside the shut blocks
moved_by : (r r' : Ram) (old new : Image) (row row' : ℕ) (rec copy : Record) (body : List ℕ) → IsRam r → IsRam r' → r'.geometry ≡ r.geometry
    → IsTrue None r old → IsSame r old r' new → get_or (marks old) row None ≡ Some rec → newest_row old (key_of rec) ≡ Some row
    → key_of copy ≡ key_of rec → row < row_count r.geometry → is_shut r.blocks (row / r.geometry.pages) ≡ true → IsOutside r row'
    → Writes r.geometry copy row' body old new → IsMovedOut row r old r' new
moved_by r r' old new row row' rec copy body s s' same w kept mark newest_is same_key lt shut out writes =
    let ne : row' / r.geometry.pages ≢ row / r.geometry.pages = apart_shut r row row' out shut in
    let within : row / r.geometry.pages < r.geometry.blocks = row_in_block r.geometry row lt in
    let before : live_at r.blocks (row / r.geometry.pages) ≡ live r.geometry (marks old) (row / r.geometry.pages) = exact_at r old (row / r.geometry.pages) s w within in
    let after : live_at r'.blocks (row / r.geometry.pages) ≡ live r.geometry (marks new) (row / r.geometry.pages) =
    (let P : Geometry → Type 0 = λ g.
    (row / r.geometry.pages < g.blocks → live_at r'.blocks (row / r.geometry.pages) ≡ live g (marks new) (row / r.geometry.pages)) in subst P
    same (exact_at r' new (row / r.geometry.pages) s' kept.truth) within) in
    let its_newest : newest_row old (key_of copy) ≡ Some row = ap (newest_row old) same_key ∙ newest_is in
    let less = live_less r.geometry old new row row' copy body writes its_newest ne in
    record {
      same = kept;
      gone = gone_copied r.geometry old new row row' rec copy body mark same_key writes (λ e. ne (ap (λ k. k / r.geometry.pages) e));
      others = λ k ne. writes.newest_others k (λ e. ne (ap (newest_row old) (sym e) ∙ its_newest));
      fewer = omega (arith, before, after, less);
    }

pub moved_out : (r r' : Ram) (old new : Image) (row row' : ℕ) (rec : Record) (body : List ℕ) → IsRam r → IsRam r' → r'.geometry ≡ r.geometry
    → IsTrue None r old → IsLivePage row body rec old → IsKeyOf r.geometry (key_of rec) → row < row_count r.geometry
    → is_shut r.blocks (row / r.geometry.pages) ≡ true → IsOutside r row' → IsReplaced rec.kind rec.number row' body r old r' new
    → IsMovedOut row r old r' new
moved_out r r' old new row row' rec body s s' same w l of_key lt shut out p = moved_by r r' old new row row' rec (last_record rec.kind rec.number row' r') body s s' same w
    (renewed_by r r' old new row row' rec body l out p).same l.mark l.newest refl lt shut out p.writes

-- a translation page that is written back has left its row too
pub moved_written : (r r2 : Ram) (m : MappingState) (x y : Image) (t row' : ℕ) (row : Option ℕ) (body : List ℕ) → IsRam r → IsRam r2 → r2.geometry ≡ r.geometry
    → IsTrue None r x → IsWrittenBack t r x (record r2 { mapping = m }) y → IsReplaced kind.Translation t row' body r x r2 y → IsOutside r row'
    → newest_row x (Translation t) ≡ row → ForSome row (λ k. k < row_count r.geometry)
    → ForSome row (λ at. is_shut r.blocks (at / r.geometry.pages) ≡ true → IsMovedOut at r x (record r2 { mapping = m }) y)
moved_written r r2 m x y t row' row body s s' same w b p out newest_is within = λ at is shut.
    let here : newest_row x (Translation t) ≡ Some at = newest_is ∙ is in
    let found = newest_mark x (Translation t) at (get_or (marks x) at None) refl here in
    let same_key : Translation t ≡ key_of found.0 = sym found.2 in
    let kept : IsSame r x r2 y = record { truth = p.truth; array = b.same.array; leaves = b.same.leaves } in
    let moved = moved_by r r2 x y at row' found.0 (last_record kind.Translation t row' r2) body s s' same w kept found.1 (ap (newest_row x) found.2 ∙ here) same_key (within at is) shut out p.writes in
    record { same = b.same; gone = moved.gone; others = moved.others; fewer = moved.fewer }

-- ---- the memory follows

pub mark_within : (r : Ram) (key : Key) (n e : ℕ) → IsRam r → IsKeyOf r.geometry key → key ≡ Sector n → e ≡ entries r.geometry → n / e < length r.pin.marks
mark_within r key n e s of_key is same =
    let lt : n < r.geometry.sectors = (let P : Key → Type 0 = λ k. IsKeyOf r.geometry k in subst P is of_key) in
    let l : n / e < translation_pages r.geometry = rw same (sector_entry r.geometry n lt) in
    omega (arith, s.marks)

pub place_any : (r : Ram) (key : Key) → IsRam r → length r.mapping.moved < waiting r + r.geometry.pages → HasPlace r.mapping key
place_any r (Sector n) s lt = λ uncached unmoved. let room = moved_places r s in omega arith
place_any r (Translation t) s lt = tt
place_any r (Table u) s lt = tt

pub moves_one : (key : Key) (row : ℕ) (m m' : MappingState) → SetsMapping key row m m' → length m'.moved ≤ length m.moved + 1
moves_one (Sector n) row m m' s = s.moved
moves_one (Translation t) row m m' s = (let l = ap (λ (z : MappingState). length z.moved) s in omega arith)
moves_one (Table u) row m m' s = (let l = ap (λ (z : MappingState). length z.moved) s in omega arith)

pub keys_same : (m m' : MappingState) → m' ≡ m → KeepsKeys m m'
keys_same m m' s = record { limits = record { geometry = ap (λ (z : MappingState). z.geometry) s; capacity = ap (λ (z : MappingState). z.capacity) s; share = ap (λ (z : MappingState). z.share) s }; keys = ap (λ (z : MappingState). keys_of z.cached) s }

pub keys_set : (key : Key) (row : ℕ) (m m' : MappingState) → SetsMapping key row m m' → KeepsKeys m m'
keys_set (Sector n) row m m' s = record { limits = s.limits; keys = s.keys }
keys_set (Translation t) row m m' s = keys_same m m' s
keys_set (Table u) row m m' s = keys_same m m' s

pub keys_then : (a b c : MappingState) → KeepsKeys a b → KeepsKeys b c → KeepsKeys a c
keys_then a b c x y = record { limits = record { geometry = y.limits.geometry ∙ x.limits.geometry; capacity = y.limits.capacity ∙ x.limits.capacity; share = y.limits.share ∙ x.limits.share }; keys = y.keys ∙ x.keys }

pub marked_at : (flushing : Bool) (key key' : Key) (b r' : Ram) → key' ≡ key
    → r' ≡ record b { pin = record { block = b.pin.block; marks = marks_after flushing b.geometry key' b.pin.marks } }
    → r' ≡ record b { pin = record { block = b.pin.block; marks = marks_after flushing b.geometry key b.pin.marks } }
marked_at flushing key key' b r' same is = is ∙ ap (λ k. record b { pin = record { block = b.pin.block; marks = marks_after flushing b.geometry k b.pin.marks } }) same

pub last_marked : (kind : Kind) (n : ℕ) (b r' : Ram) (p p' : Page) → r'.next ≡ b.next → p' ≡ p → IsLastPage kind n b p → IsLastPage kind n r' p'
last_marked kind n b r' p p' next same l = rw same (record { its = l.its; sound = l.sound; of_kind = l.of_kind; of_number = l.of_number; last = l.last ∙ ap (λ k. k - 1) (sym next) })

-- a page that was put, and the mark after it
module _ (flushing : Bool) (key : Key) (row : ℕ) (r b r' : Ram) (is : r' ≡ record b { pin = record { block = b.pin.block; marks = marks_after flushing b.geometry key b.pin.marks } }) where
  pub goes_marked : Goes r b → Goes r r'
  goes_marked goes = rw is (record { geometry = goes.geometry; next = goes.next; shut = goes.shut })

  pub true_marked : (y : Image) → IsTrue None b y → IsTrue None r' y
  true_marked y w = rw is (record { whole = w.whole; one = w.one; below = w.below; filled = w.filled; live = w.live; worn = w.worn; tables = w.tables; maps = w.maps })

  pub followed : b.geometry ≡ r.geometry → b.pin ≡ r.pin → SetsMapping key row r.mapping b.mapping → HasFollowed flushing key row r r'
  followed same pin sets = rw is (record {
    geometry = same;
    mapping = sets;
    marks = ap (λ g. marks_after flushing g key b.pin.marks) same ∙ ap (λ (p : Pin). marks_after flushing r.geometry key p.marks) pin;
  })

  pub cost_marked : (stream : Stream) → IsRam r → IsKeyOf r.geometry key → HasPut stream r b → b.geometry ≡ r.geometry → b.pin ≡ r.pin → SetsMapping key row r.mapping b.mapping → HasCopied flushing r r'
  cost_marked stream s of_key cost same pin sets = record {
    stream = stream;
    put = rw is (record { failures = cost.failures; put = cost.put; next = cost.next });
    key = key;
    row = row;
    sets = rw is sets;
    moved = (let l = moves_one key row r.mapping b.mapping sets in rw is l);
    due = copied_due flushing key row r r' s of_key (followed same pin sets);
  }

  pub refreshes_marked : flushing ≡ true → IsRam r → IsKeyOf r.geometry key → b.geometry ≡ r.geometry → b.pin ≡ r.pin → SetsMapping key row r.mapping b.mapping → Refreshes r r'
  refreshes_marked on s of_key same pin sets = copied_refreshes key row r r' s of_key (let P : Bool → Type 0 = λ x. HasFollowed x key row r r' in subst P on (followed same pin sets))

  pub moved_marked : (from : ℕ) (x y : Image) → IsMovedOut from r x b y → IsMovedOut from r x r' y
  moved_marked from x y m = record { same = record { truth = true_marked y m.same.truth; array = m.same.array; leaves = m.same.leaves }; gone = m.gone; others = m.others; fewer = (let f = m.fewer in rw is f) }

  pub renewed_marked : (k : Key) (x y : Image) → IsRenewed k r x b y → IsRenewed k r x r' y
  renewed_marked k x y m = record { same = record { truth = true_marked y m.same.truth; array = m.same.array; leaves = m.same.leaves }; renewed = m.renewed; others = m.others }

  pub pin_marked : flushing ≡ false → r'.pin ≡ b.pin
  pin_marked off = (let f : Bool → Pin = λ x. record { block = b.pin.block; marks = marks_after x b.geometry key b.pin.marks } in ap (λ (z : Ram). z.pin) is ∙ ap f off)

pub refreshes_same : (a b : Ram) → b.mapping ≡ a.mapping → b.pin ≡ a.pin → Refreshes a b
refreshes_same a b m p = record { each = λ t within fresh unmarked. (let P : MappingState → Type 0 = λ x. IsUpToDate x t in subst P (sym m) (fresh (ap (λ (q : Pin). get_or q.marks t false) (sym p) ∙ unmarked))) }

pub refreshes_then : (a b c : Ram) → b.geometry ≡ a.geometry → Refreshes a b → Refreshes b c → Refreshes a c
refreshes_then a b c same x y = record { each = λ t within fresh. y.each t (rw same within) (x.each t within fresh) }

pub fault_costs : (stream : Stream) (r b : Ram) (fault : EngineFault) → PutCosts stream r b (Err fault) → FaultCosts r b fault
fault_costs stream r b ReadOnly cost = record { stream = stream; out = cost }
fault_costs stream r b SequenceSpent cost = record { stream = stream; spent = cost }
fault_costs stream r b Damaged cost = absurd cost
fault_costs stream r b Bus cost = tt
