-- What the calls of a file of bytes come to for the rows in it.
use Rattle.std.proofs.Common.{◌≡◌, ◌≢◌, ◌⊎◌, inl, inr, ◌∙◌, ◌<◌, ◌≤◌, ◌/◌, ◌+◌, ◌-◌, ◌*◌, ap, refl, sym, subst, arith, ℕ, zero, suc, Bool, true, false, List, [], ◌∷◌, ◌++◌, length, get_or, take, drop, replicate, length-append, length-take, length-drop}
use Rattle.std.specs.Prelude.{slice_get, slice_set, slice_index, ◌==◌, ◌&&◌, ◌^◌, if◌then◌else◌, Option, None, Some, Result, Ok, Err, IfErr, OnOk, OnErr, is_ok, is_err}
use Rattle.std.proofs.Math.Facts.{eqb_yes}
use Rattle.std.proofs.Math.Nat.{mul-le-mul_right}
use Rattle.std.proofs.Math.Seq.{take-length}
use Rattle.std.proofs.lemmas.Bool.{cases_lt}
use Rattle.std.proofs.lemmas.Bool.Decides.{nat_tests}
use Rattle.std.proofs.lemmas.Float.{T_from_true}
use Rattle.std.proofs.lemmas.List.{ext_get_or, get_or_past, get_or-set_other, get_or-set_same, get_or-replicate, length-set, length-replicate, take-replicate, drop-replicate}
use Rattle.std.proofs.lemmas.List.FromFn.{length-map-range_with_len, get_or-map-range_with_len}
use Rattle.std.proofs.lemmas.Option.{slice_get_within, get_or_from_slice_get}
use Rattle.page_layout.specs.declared.geometry.Geometry.{Geometry}
use Rattle.page_layout.specs.Geometry.{row_count, page_bytes}
use Rattle.page_layout.specs.Counter.{counted, HasRisen}
use Rattle.page_layout.specs.Page.{Page, Image, IsPage, IsImage}
use Rattle.page_layout.specs.Change.{erased_page}
use Rattle.page_layout.specs.Flash.{no_page, with_block}
use Rattle.page_layout.proofs.FlashLemmas.{inside, with_block-inside}
use Rattle.onfi_cycles.specs.Cycles.{page_of}
use Rattle.nand_die.proofs.PagesLemmas.{block_within, page_of_blank}
use Rattle.file_die.specs.Bytes.{Bytes, HoldsOnlyBytes, WritesFailBy, Gives, HasEnded, SyncsBytes, TakesBytes, TakesFewer, over, piece, IsTold}
use Rattle.file_die.specs.declared.bytes.ByteFault.{ByteFault}
use Rattle.file_die.specs.declared.store.StoreFault.{StoreFault}
use Rattle.file_die.specs.Rows.{Rows, AreRows, CountsRowFailures, FailsSync, Remembers, TellsEnd, TellsFull, WritesAll, IsReading, lacks_room, read_rows, held_in, is_kept, syncs_lost}
use Rattle.file_die.specs.Store.{Held, AreImages, MayBeLeft, LastsOf, Lasts, Loads, Puts, Clears, Syncs, page_in}
use Rattle.file_die.proofs.BytesLemmas.{get_drop, take_alike, over_before, over_within, over_after, length_over, length_mixed, length_lasts, fits_over, fits_mixed, fits_lasts, fits_take, fits_drop}
use Rattle.file_die.proofs.MemoryLemmas.{other_row, outside}

-- as a store holds it
abbrev pub rows_held : (List ℕ → Page) → Geometry → ℕ → Bytes → Held
rows_held reads g size s = record { geometry = g; pages = read_rows reads size (row_count g) s.bytes; durable = read_rows reads size (row_count g) s.durable }

-- a file of the rows
pub record IsOfRows (g : Geometry) (size : ℕ) (s : Bytes) : Type 0 where
  pub whole : length s.bytes ≡ row_count g * size
  pub lasts : length s.durable ≡ row_count g * size
  pub fit : HoldsOnlyBytes s

-- ---- why a call failed

pub full_told : {F : Type 0} → (wrote : F → ℕ → List ℕ → Result ℕ ByteFault → F → Type 0) (old new : Rows F) (file : F) (answer : Result (Unit {0}) ByteFault) (result : Result (Unit {0}) StoreFault)
    → IfErr answer (λ why. WritesFailBy wrote why file) → new.full ≡ lacks_room true old.sync_failed answer → IfErr answer (λ why. Remembers old new why) → is_ok result ≡ is_ok answer → new.file ≡ file → OnErr result (TellsFull wrote old new)
full_told wrote old new file answer (Ok done) by is first e same = tt
full_told wrote old new file (Ok done) (Err fault) by is first e same = let no : ⊥ = cc in absurd no
full_told wrote old new file (Err why) (Err fault) by is first e same = record { why = why; fails = subst (WritesFailBy wrote why) (sym same) by; full = is; first = first }

pub end_told : {F : Type 0} → (gave : F → ℕ → ℕ → Result (List ℕ) ByteFault → F → Type 0) (row size at wanted : ℕ) (old new : Rows F) (file : F) (answer : Result (Unit {0}) ByteFault) (result : Result (Unit {0}) StoreFault)
    → at ≡ row * size → wanted ≡ size → IfErr answer (λ why. HasEnded gave old.file at wanted why file) → IfErr answer (λ why. Remembers old new why) → is_ok result ≡ is_ok answer → new.file ≡ file → OnErr result (TellsEnd gave row size old new)
end_told gave row size at wanted old new file answer (Ok done) a w by first e same = tt
end_told gave row size at wanted old new file (Ok done) (Err fault) a w by first e same = let no : ⊥ = cc in absurd no
end_told gave row size at wanted old new file (Err why) (Err fault) a w by first e same = record {
  why = why;
  ended = subst (λ left. HasEnded gave old.file (row * size) size why left) (sym same) (subst (λ k. HasEnded gave old.file (row * size) k why file) w (subst (λ k. HasEnded gave old.file k wanted why file) a by));
  first = first;
}

-- what a call that was settled has counted
risen : (a b : ℕ) → b ≡ counted a → HasRisen a b
risen a b is = elim (cases_lt a (2 ^ 64 - 1)) [
  | inl below ↦ inl (omega (arith, is, below))
  | inr most ↦ inr (omega (arith, is, most))
]

risen_on : {T E : Type 0} (r : Result T E) (a b : ℕ) → OnErr r (b ≡ counted a) → OnErr r (HasRisen a b)
risen_on (Ok x) a b is = tt
risen_on (Err e) a b is = risen a b is

pub counts_settled : {F : Type 0} → (old new : Rows F) (result : Result (Unit {0}) StoreFault) → new.geometry ≡ old.geometry → new.size ≡ old.size → OnOk result ((new.failures ≡ old.failures) × (new.fault ≡ old.fault))
    → old.failures ≤ new.failures → OnErr result (new.failures ≡ counted old.failures) → ((fault : ByteFault) → old.fault ≡ Some fault → new.fault ≡ Some fault) → CountsRowFailures old new result
counts_settled old new result geometry size ok rising rose first = record {
  geometry = geometry;
  size = size;
  rising = rising;
  settled = ok;
  rose = risen_on result old.failures new.failures rose;
  first = first;
}

-- there was room where it was done
pub room_settled : (full lost : Bool) (answer : Result (Unit {0}) ByteFault) (result : Result (Unit {0}) StoreFault) → full ≡ lacks_room true lost answer → is_ok result ≡ is_ok answer → OnOk result (full ≡ false)
room_settled full lost answer (Err fault) is e = tt
room_settled full true (Ok x) (Ok y) is e = is
room_settled full false (Ok x) (Ok y) is e = is
room_settled full lost (Err why) (Ok y) is e = let no : ⊥ = cc in absurd no

pub sync_told : {F : Type 0} → (refused : F → ByteFault → F → Type 0) (old new : Rows F) (file : F) (answer : Result (Unit {0}) ByteFault) (result : Result (Unit {0}) StoreFault)
    → IfErr answer (λ why. refused old.file why file) → IfErr answer (λ why. Remembers old new why) → is_ok result ≡ is_ok answer → new.file ≡ file → OnErr result (FailsSync refused old new)
sync_told refused old new file answer (Ok done) by first e same = tt
sync_told refused old new file (Ok done) (Err fault) by first e same = let no : ⊥ = cc in absurd no
sync_told refused old new file (Err why) (Err fault) by first e same = record { why = why; refused_by = λ _. subst (refused old.file why) (sym same) by; first = first }

-- a sync that was not asked for
pub sync_lost : {F : Type 0} → (refused : F → ByteFault → F → Type 0) (old new : Rows F) (why : ByteFault) (result : Result (Unit {0}) StoreFault) → old.sync_failed ≡ true → Remembers old new why → OnErr result (FailsSync refused old new)
sync_lost refused old new why (Ok done) lost first = tt
sync_lost refused old new why (Err fault) lost first = record { why = why; refused_by = λ e. (let no : true ≡ false = sym lost ∙ e in let never : ⊥ = cc in absurd never); first = first }

pub syncs_none : (s : Held) (done : Bool) → done ≡ false → Syncs s done s
syncs_none s done e = record {
  same = refl;
  synced = λ d. (let no : true ≡ false = sym d ∙ e in let never : ⊥ = cc in absurd never);
  lasts = λ row. record { left = inl (0, omega arith, refl); kept = λ a b. a };
  whole = λ v. v;
}

-- ---- what the pages of a die keep

pub kept_still : {F : Type 0} → (held : F → Bytes) (honest : F → Bool) (tells : F → ℕ → (List ℕ → Page) → Bool) (old new : Rows F) → new.geometry ≡ old.geometry
    → ((reads : List ℕ → Page) → is_kept held honest tells reads new ≡ is_kept held honest tells reads old) → is_kept held honest tells (page_of new.geometry) new ≡ is_kept held honest tells (page_of old.geometry) old
kept_still held honest tells old new geometry kept = ap (λ (z : Geometry). is_kept held honest tells (page_of z) new) geometry ∙ kept (page_of old.geometry)

pub failures_still : {F : Type 0} → (old new : Rows F) (result : Result (Unit {0}) StoreFault) → OnOk result ((new.failures ≡ old.failures) × (new.fault ≡ old.fault)) → OnOk result (new.failures ≡ old.failures)
failures_still old new (Ok done) same = same.0
failures_still old new (Err fault) same = tt

pub where_ok : {T E P : Type 0} (r : Result T E) → (is_ok r ≡ true → P) → OnOk r P
where_ok (Ok x) p = p refl
where_ok (Err e) p = tt

-- ---- rows

pub rows_length : (reads : List ℕ → Page) (size n : ℕ) (bytes : List ℕ) → length (read_rows reads size n bytes) ≡ n
unfolding read_rows
rows_length reads size n bytes = length-map-range_with_len (λ row. reads (piece size row bytes)) 0 n

pub row_is : (reads : List ℕ → Page) (size n row : ℕ) (bytes : List ℕ) → row < n → page_in (read_rows reads size n bytes) row ≡ reads (piece size row bytes)
unfolding read_rows
row_is reads size n row bytes lt = get_or-map-range_with_len (λ r. reads (piece size r bytes)) 0 n row row no_page lt (omega arith)

row_past : (reads : List ℕ → Page) (size n row : ℕ) (bytes : List ℕ) → n ≤ row → page_in (read_rows reads size n bytes) row ≡ no_page
row_past reads size n row bytes le = get_or_past (read_rows reads size n bytes) row no_page (omega (arith, rows_length reads size n bytes, le))

same_row : (reads : List ℕ → Page) (size n row : ℕ) (xs ys : List ℕ) → piece size row xs ≡ piece size row ys → page_in (read_rows reads size n xs) row ≡ page_in (read_rows reads size n ys) row
same_row reads size n row xs ys e = elim (cases_lt row n) [
  | inl lt ↦ row_is reads size n row xs lt ∙ (ap reads e ∙ sym (row_is reads size n row ys lt))
  | inr le ↦ row_past reads size n row xs le ∙ sym (row_past reads size n row ys le)
]

piece_alike : (size row : ℕ) (xs ys : List ℕ) → ((i : ℕ) → i < size → slice_get xs (row * size + i) ≡ slice_get ys (row * size + i)) → piece size row xs ≡ piece size row ys
piece_alike size row xs ys a = take_alike size (drop (row * size) xs) (drop (row * size) ys) (λ i lt. get_drop (row * size) xs i ∙ (a i lt ∙ sym (get_drop (row * size) ys i)))

piece_size : (size row n : ℕ) (xs : List ℕ) → length xs ≡ n * size → row < n → length (piece size row xs) ≡ size
piece_size size row n xs e lt =
    let m : suc row * size ≤ n * size = mul-le-mul_right size lt in
    let s : suc row * size ≡ row * size + size = omega arith in
    omega (arith, length-take size (drop (row * size) xs), length-drop (row * size) xs, e, m, s)

pub image_of : (reads : List ℕ → Page) (g : Geometry) (size : ℕ) (bytes : List ℕ) → IsReading g size reads → length bytes ≡ row_count g * size → ((i : ℕ) → slice_index bytes i < 256) → IsImage g (read_rows reads size (row_count g) bytes)
image_of reads g size bytes r e fits = record {
  rows = rows_length reads size (row_count g) bytes;
  pages = λ row p is.
      let n : ℕ = row_count g in
      let image : Image = read_rows reads size n bytes in
      let within : row < n = omega (arith, rows_length reads size n bytes, slice_get_within image row p is) in
      let page_is : reads (piece size row bytes) ≡ p = sym (row_is reads size n row bytes within) ∙ get_or_from_slice_get image row p no_page is in
      subst (IsPage g) page_is (r.pages (piece size row bytes) (piece_size size row n bytes e within) (fits_take size (drop (row * size) bytes) (fits_drop (row * size) bytes fits)));
}

pub images_of : (reads : List ℕ → Page) (g : Geometry) (size : ℕ) (s : Bytes) → IsReading g size reads → IsOfRows g size s → AreImages (rows_held reads g size s)
images_of reads g size s r is = record { pages_whole = image_of reads g size s.bytes r is.whole is.fit.bytes_fit; durable_whole = image_of reads g size s.durable r is.lasts is.fit.durable_fit }

-- ---- what is told of rows

lasts_as : (a a' b b' c c' d d' : Page) → a' ≡ a → b' ≡ b → c' ≡ c → d' ≡ d → LastsOf a b c d → LastsOf a' b' c' d'
lasts_as a a' b b' c c' d d' e f h i l =
    subst (λ z. LastsOf z b' c' d') (sym e) (subst (λ z. LastsOf a z c' d') (sym f) (subst (λ z. LastsOf a b z d') (sym h) (subst (λ z. LastsOf a b c z) (sym i) l)))

left_as : (a a' b b' c c' : Page) → a' ≡ a → b ≡ b' → c' ≡ c → MayBeLeft (a ∷ b ∷ []) c → MayBeLeft (a' ∷ b' ∷ []) c'
left_as a a' b b' c c' e f h m = subst (λ p. MayBeLeft (a' ∷ b' ∷ []) p) (sym h) (subst (λ p. MayBeLeft (p ∷ b' ∷ []) c) (sym e) (subst (λ p. MayBeLeft (a ∷ p ∷ []) c) f m))

none_lasts : (p : Page) → LastsOf p p p p
none_lasts p = record { left = inl (0, omega arith, refl); kept = λ a b. refl }

lasts_rows : (reads : List ℕ → Page) (g : Geometry) (size : ℕ) (s t : Bytes)
    → ((row : ℕ) → LastsOf (reads (piece size row s.durable)) (reads (piece size row s.bytes)) (reads (piece size row t.bytes)) (reads (piece size row t.durable)))
    → Lasts (rows_held reads g size s) (rows_held reads g size t)
lasts_rows reads g size s t all row =
    let n : ℕ = row_count g in
    elim (cases_lt row n) [
      | inl lt ↦ lasts_as _ _ _ _ _ _ _ _ (row_is reads size n row s.durable lt) (row_is reads size n row s.bytes lt) (row_is reads size n row t.bytes lt) (row_is reads size n row t.durable lt) (all row)
      | inr le ↦ lasts_as _ _ _ _ _ _ _ _ (row_past reads size n row s.durable le) (row_past reads size n row s.bytes le) (row_past reads size n row t.bytes le) (row_past reads size n row t.durable le) (none_lasts no_page)
    ]

-- at first
told_first : (size : ℕ) (reads : List ℕ → Page) (wanted : List ℕ) (s : Bytes) → IsTold size reads s wanted s
told_first size reads wanted s = record {
  stands = λ row. inl (0, omega arith, refl);
  lasts = λ row. record { left = inl (0, omega arith, refl); kept = λ a b. a };
}

-- ---- a write of some rows

-- after a write within the file it is one of the rows still
pub still_rows : (g : Geometry) (size at : ℕ) (given : List ℕ) (done : Bool) (s t : Bytes) → IsOfRows g size s → at + length given ≤ row_count g * size → ((i : ℕ) → slice_index given i < 256) → WritesAll s at given done t → IsOfRows g size t
still_rows g size at given done s t is l fits w =
    let n : ℕ = row_count g * size in
    let within : at + length given ≤ length s.bytes = omega (arith, is.whole, l) in
    let start : at ≤ length s.bytes = omega (arith, within) in
    let whole : length t.bytes ≡ n = length_mixed n s.bytes (over at given s.bytes) t.bytes w.mixes is.whole (length_over at given s.bytes within ∙ is.whole) in
    let bytes_fit = fits_mixed s.bytes (over at given s.bytes) t.bytes w.mixes is.fit.bytes_fit (fits_over at given s.bytes start fits is.fit.bytes_fit) in
    record {
      whole = whole;
      lasts = length_lasts n s.durable s.bytes t.bytes t.durable w.lasts is.lasts is.whole whole;
      fit = record { bytes_fit = bytes_fit; durable_fit = fits_lasts s.durable s.bytes t.bytes t.durable w.lasts is.fit.durable_fit is.fit.bytes_fit bytes_fit };
    }

-- the rows before them and behind them stay
rows_stay : (size first count at row : ℕ) (given : List ℕ) (done : Bool) (s t : Bytes) → at ≡ first * size → length given ≡ count * size → at ≤ length s.bytes → (row < first) ⊎ (first + count ≤ row)
    → WritesAll s at given done t → piece size row t.bytes ≡ piece size row s.bytes
rows_stay size first count at row given done s t a c l out w = piece_alike size row t.bytes s.bytes (λ i lt.
    let p : ℕ = row * size + i in
    let same : slice_get (over at given s.bytes) p ≡ slice_get s.bytes p = elim out [
      | inl before ↦
          let m : suc row * size ≤ first * size = mul-le-mul_right size before in
          let e : suc row * size ≡ row * size + size = omega arith in
          over_before at given s.bytes p l (omega (arith, m, e, a, lt))
      | inr behind ↦
          let m : (first + count) * size ≤ row * size = mul-le-mul_right size behind in
          let e : (first + count) * size ≡ first * size + count * size = omega arith in
          over_after at given s.bytes p l (omega (arith, m, e, a, c))
    ] in
    elim (w.mixes p) [ inl e ↦ e | inr e ↦ e ∙ same ])

-- one of them, as it was to be
row_wanted : (size first count at k : ℕ) (given bytes : List ℕ) → at ≡ first * size → length given ≡ count * size → at ≤ length bytes → k < count → piece size (first + k) (over at given bytes) ≡ piece size k given
row_wanted size first count at k given bytes a c l lt =
    take_alike size (drop ((first + k) * size) (over at given bytes)) (drop (k * size) given) (λ i small.
    let m : suc k * size ≤ count * size = mul-le-mul_right size lt in
    let s : suc k * size ≡ k * size + size = omega arith in
    let d : (first + k) * size ≡ first * size + k * size = omega arith in
    let e : (first + k) * size + i ≡ at + (k * size + i) = omega (arith, d, a) in
    get_drop ((first + k) * size) (over at given bytes) i
    ∙ (ap (slice_get (over at given bytes)) e
    ∙ (over_within at given bytes (k * size + i) l (omega (arith, m, s, c, small)) ∙ sym (get_drop (k * size) given i))))

pub fits_blank : (n i : ℕ) → slice_index (replicate n 255) i < 256
fits_blank zero i = omega arith
fits_blank (suc n) zero = omega arith
fits_blank (suc n) (suc i) = fits_blank n i

length_block : (pages block : ℕ) (left : List Page) (image : Image) → length left ≡ pages → block * pages + pages ≤ length image → length (with_block pages block left image) ≡ length image
length_block pages block left image e l =
    let a : ℕ = block * pages in
    omega (arith, length-append (take a image) (left ++ drop (a + pages) image), length-append left (drop (a + pages) image), length-take a image, length-drop (a + pages) image, e, l)

pub settled_rows : (g : Geometry) (size : ℕ) (done : Bool) (s t : Bytes) → IsOfRows g size s → SyncsBytes s done t → IsOfRows g size t
settled_rows g size done s t is settles =
    let n : ℕ = row_count g * size in
    let whole : length t.bytes ≡ n = ap length settles.same ∙ is.whole in
    let bytes_fit : (i : ℕ) → slice_index t.bytes i < 256 = subst (λ xs. (i : ℕ) → slice_index xs i < 256) (sym settles.same) is.fit.bytes_fit in
    record {
      whole = whole;
      lasts = length_lasts n s.durable s.bytes t.bytes t.durable settles.lasts is.lasts is.whole whole;
      fit = record { bytes_fit = bytes_fit; durable_fit = fits_lasts s.durable s.bytes t.bytes t.durable settles.lasts is.fit.durable_fit is.fit.bytes_fit bytes_fit };
    }

-- ---- calls of a store

-- the bytes of a row that was read
pub piece_read : (size row at : ℕ) (given bytes : List ℕ) → at ≡ row * size → length given ≡ size → ((i : ℕ) → i < size → slice_get given i ≡ slice_get bytes (at + i)) → given ≡ piece size row bytes
piece_read size row at given bytes a l gave =
    let is : take size given ≡ piece size row bytes = take_alike size given (drop (row * size) bytes)
    (λ i small. gave i small ∙ (ap (λ k. slice_get bytes (k + i)) a ∙ sym (get_drop (row * size) bytes i))) in
    let all : take size given ≡ given = ap (λ k. take k given) (sym l) ∙ take-length given in
    sym all ∙ is

pub loads : (reads : List ℕ → Page) (g : Geometry) (size row at : ℕ) (given : List ℕ) (done : Bool) (s t : Bytes) → row < row_count g → at ≡ row * size → length s.bytes ≡ row_count g * size → length given ≡ size
    → (done ≡ true → (i : ℕ) → i < size → slice_get given i ≡ slice_get s.bytes (at + i)) → t ≡ s → Loads (rows_held reads g size s) row (reads given) done (rows_held reads g size t)
loads reads g size row at given done s t lt a e l gave same = record {
  gave = λ d. ap reads (piece_read size row at given s.bytes a l (gave d)) ∙ sym (row_is reads size (row_count g) row s.bytes lt);
  same = ap (rows_held reads g size) same;
}

-- one row of them as it was to be
one_wanted : (size row at : ℕ) (given bytes : List ℕ) → at ≡ row * size → length given ≡ size → at ≤ length bytes → piece size row (over at given bytes) ≡ given
one_wanted size row at given bytes a l start =
    let one : length given ≡ 1 * size = omega (arith, l) in
    let first : row + 0 ≡ row = omega arith in
    let zero_at : 0 * size ≡ 0 = omega arith in
    let all : piece size 0 given ≡ given = ap (λ k. take size (drop k given)) zero_at ∙ (ap (λ k. take k given) (sym l) ∙ take-length given) in
    ap (λ k. piece size k (over at given bytes)) (sym first) ∙ (row_wanted size row 1 at 0 given bytes a one start (omega arith) ∙ all)

-- and all others
others_stay : (reads : List ℕ → Page) (size n row at : ℕ) (given : List ℕ) (done : Bool) (s t : Bytes) → at ≡ row * size → length given ≡ size → at ≤ length s.bytes → WritesAll s at given done t
    → (other : ℕ) → other ≢ row → page_in (read_rows reads size n t.bytes) other ≡ page_in (read_rows reads size n s.bytes) other
others_stay reads size n row at given done s t a l start w other ne =
    let one : length given ≡ 1 * size = omega (arith, l) in
    let out : (other < row) ⊎ (row + 1 ≤ other) = elim (cases_lt other row) [
      | inl lower ↦ inl lower
      | inr ge ↦ elim (cases_lt row other) [ inl more ↦ inr (omega (arith, more)) | inr le ↦ absurd (ne (omega (arith, ge, le))) ]
    ] in
    same_row reads size n other t.bytes s.bytes (rows_stay size row 1 at other given done s t a one start out w)

-- A ROW THAT WAS WRITTEN: it is read as what was given, and each other row as before, however rows are read
pub rows_set : (reads : List ℕ → Page) (size n row at : ℕ) (given : List ℕ) (s t : Bytes) → row < n → at ≡ row * size → length given ≡ size → at ≤ length s.bytes → WritesAll s at given true t
    → read_rows reads size n t.bytes ≡ slice_set (read_rows reads size n s.bytes) row (reads given)
rows_set reads size n row at given s t lt a l start w =
    let others = others_stay reads size n row at given true s t a l start w in
    let here : piece size row (over at given s.bytes) ≡ given = one_wanted size row at given s.bytes a l start in
    let there : page_in (read_rows reads size n t.bytes) row ≡ reads given = row_is reads size n row t.bytes lt ∙ ap reads (ap (piece size row) (w.written refl) ∙ here) in
    let long : length (read_rows reads size n t.bytes) ≡ length (slice_set (read_rows reads size n s.bytes) row (reads given)) =
    rows_length reads size n t.bytes ∙ sym (length-set (read_rows reads size n s.bytes) row (reads given) ∙ rows_length reads size n s.bytes) in
    ext_get_or no_page _ _ long (λ other small. elim (cases_lt other row) [
      | inl lower ↦ others other (λ z. omega (arith, z, lower)) ∙ sym (get_or-set_other (read_rows reads size n s.bytes) row other (reads given) no_page (λ z. omega (arith, z, lower)))
      | inr ge ↦ elim (cases_lt row other) [
        | inl more ↦ others other (λ z. omega (arith, z, more)) ∙ sym (get_or-set_other (read_rows reads size n s.bytes) row other (reads given) no_page (λ z. omega (arith, z, more)))
        | inr le ↦
            let same : other ≡ row = omega (arith, ge, le) in
            ap (page_in (read_rows reads size n t.bytes)) same ∙ (there ∙ (sym (get_or-set_same (read_rows reads size n s.bytes) row (reads given) no_page (omega (arith, rows_length reads size n s.bytes, lt)))
            ∙ ap (page_in (slice_set (read_rows reads size n s.bytes) row (reads given))) (sym same)))
      ]
    ])

pub puts : (reads : List ℕ → Page) (g : Geometry) (size row at : ℕ) (given : List ℕ) (done : Bool) (s t : Bytes) → IsReading g size reads → IsOfRows g size s → row < row_count g → at ≡ row * size → length given ≡ size → ((i : ℕ) → slice_index given i < 256)
    → WritesAll s at given done t → (IsTold size reads s (over at given s.bytes) s → IsTold size reads s (over at given s.bytes) t) → Puts (rows_held reads g size s) row (reads given) done (rows_held reads g size t)
puts reads g size row at given done s t r is lt a l fits w tells =
    let n : ℕ = row_count g in
    let end : suc row * size ≤ n * size = mul-le-mul_right size lt in
    let last : suc row * size ≡ row * size + size = omega arith in
    let within : at + length given ≤ n * size = omega (arith, end, last, a, l) in
    let start : at ≤ length s.bytes = omega (arith, within, is.whole) in
    let told = tells (told_first size reads (over at given s.bytes) s) in
    let here : piece size row (over at given s.bytes) ≡ given = one_wanted size row at given s.bytes a l start in
    record {
      put = λ e. rows_set reads size n row at given s t lt a l start (subst (λ (d : Bool). WritesAll s at given d t) e w);
      torn = λ e. left_as _ _ _ _ _ _ (row_is reads size n row s.bytes lt) (ap reads here) (row_is reads size n row t.bytes lt) (told.stands row);
      others = others_stay reads size n row at given done s t a l start w;
      lasts = lasts_rows reads g size s t told.lasts;
      whole = λ _. images_of reads g size t r (still_rows g size at given done s t is within fits w);
    }

-- the bytes of a block that is erased
erased_piece : (size count k : ℕ) → k < count → piece size k (replicate (count * size) 255) ≡ replicate size 255
erased_piece size count k lt =
    let m : suc k * size ≤ count * size = mul-le-mul_right size lt in
    let s : suc k * size ≡ k * size + size = omega arith in
    ap (take size) (drop-replicate (k * size) (count * size) 255) ∙ take-replicate size (count * size - k * size) 255 (omega (arith, m, s))

-- a block of which all bytes were made FFh: each of its rows reads as such bytes do, and every other one as it did
pub rows_blank : (reads : List ℕ → Page) (g : Geometry) (size block at : ℕ) (given : List ℕ) (p : Page) (s t : Bytes) → length s.bytes ≡ row_count g * size → block < g.blocks → at ≡ block * g.pages * size → given ≡ replicate (g.pages * size) 255
    → reads (replicate size 255) ≡ p → WritesAll s at given true t → read_rows reads size (row_count g) t.bytes ≡ with_block g.pages block (replicate g.pages p) (read_rows reads size (row_count g) s.bytes)
rows_blank reads g size block at given p s t whole lt a e is w =
    let n : ℕ = row_count g in
    let pages : ℕ = g.pages in
    let first : ℕ = block * pages in
    let in_die : first + pages ≤ n = block_within g block lt in
    let end : (first + pages) * size ≤ n * size = mul-le-mul_right size in_die in
    let sum : (first + pages) * size ≡ first * size + pages * size = omega arith in
    let count : length given ≡ pages * size = ap length e ∙ length-replicate (pages * size) 255 in
    let start : at ≤ length s.bytes = omega (arith, end, sum, whole, a) in
    let here : (k : ℕ) → k < pages → reads (piece size (first + k) (over at given s.bytes)) ≡ p = λ k small.
    ap reads (row_wanted size first pages at k given s.bytes a count start small ∙ (ap (piece size k) e ∙ erased_piece size pages k small)) ∙ is in
    let old : Image = read_rows reads size n s.bytes in
    let new : Image = read_rows reads size n t.bytes in
    let blank : List Page = replicate pages p in
    let long : length blank ≡ pages = length-replicate pages p in
    let fits : first + pages ≤ length old = omega (arith, rows_length reads size n s.bytes, in_die) in
    let size_is : length new ≡ length (with_block pages block blank old) = rows_length reads size n t.bytes ∙ sym (length_block pages block blank old long fits ∙ rows_length reads size n s.bytes) in
    let in_block : (k : ℕ) → k < pages → page_in new (first + k) ≡ get_or (with_block pages block blank old) (first + k) no_page = λ k small.
    row_is reads size n (first + k) t.bytes (omega (arith, in_die, small))
    ∙ (ap (λ z. reads (piece size (first + k) z)) (w.written refl) ∙ (here k small ∙ sym (with_block-inside pages block k blank old long fits small ∙ get_or-replicate pages k p no_page small))) in
    ext_get_or no_page new (with_block pages block blank old) size_is (λ row small. elim (cases_lt row first) [
      | inl before ↦ outer row (inl before)
      | inr ge ↦ elim (cases_lt row (first + pages)) [
        | inl lower ↦
            let k : ℕ = row - first in
            let is_k : row ≡ first + k = omega (arith, ge) in
            ap (page_in new) is_k ∙ (in_block k (omega (arith, ge, lower)) ∙ ap (λ q. get_or (with_block pages block blank old) q no_page) (sym is_k))
        | inr past ↦ outer row (inr past)
      ]
    ])
  where
    outer : (row : ℕ) → (row < block * g.pages) ⊎ (block * g.pages + g.pages ≤ row) → page_in (read_rows reads size (row_count g) t.bytes) row ≡ get_or (with_block g.pages block (replicate g.pages p) (read_rows reads size (row_count g) s.bytes)) row no_page
    outer row out =
        let in_die : block * g.pages + g.pages ≤ row_count g = block_within g block lt in
        let end : (block * g.pages + g.pages) * size ≤ row_count g * size = mul-le-mul_right size in_die in
        let start : at ≤ length s.bytes = omega (arith, end, whole, a) in
        same_row reads size (row_count g) row t.bytes s.bytes (rows_stay size (block * g.pages) g.pages at row given true s t a (ap length e ∙ length-replicate (g.pages * size) 255) start out w)
        ∙ sym (other_row g.pages block row (replicate g.pages p) (read_rows reads size (row_count g) s.bytes) (length-replicate g.pages p) (omega (arith, rows_length reads size (row_count g) s.bytes, in_die)) out)

pub clears : (reads : List ℕ → Page) (g : Geometry) (size block at : ℕ) (given : List ℕ) (done : Bool) (s t : Bytes) → IsReading g size reads → IsOfRows g size s → block < g.blocks → at ≡ block * g.pages * size → given ≡ replicate (g.pages * size) 255
    → WritesAll s at given done t → (IsTold size reads s (over at given s.bytes) s → IsTold size reads s (over at given s.bytes) t) → Clears (rows_held reads g size s) block done (rows_held reads g size t)
clears reads g size block at given done s t r is lt a e w tells =
    let n : ℕ = row_count g in
    let pages : ℕ = g.pages in
    let first : ℕ = block * pages in
    let some : 0 < pages = omega (arith, g.limits.page_count.least) in
    let in_die : first + pages ≤ n = block_within g block lt in
    let end : (first + pages) * size ≤ n * size = mul-le-mul_right size in_die in
    let sum : (first + pages) * size ≡ first * size + pages * size = omega arith in
    let count : length given ≡ pages * size = ap length e ∙ length-replicate (pages * size) 255 in
    let within : at + length given ≤ n * size = omega (arith, end, sum, a, count) in
    let start : at ≤ length s.bytes = omega (arith, within, is.whole) in
    let told = tells (told_first size reads (over at given s.bytes) s) in
    let after = still_rows g size at given done s t is within (subst (λ xs. (i : ℕ) → slice_index xs i < 256) (sym e) (λ i. fits_blank (pages * size) i)) w in
    let here : (k : ℕ) → k < pages → reads (piece size (first + k) (over at given s.bytes)) ≡ erased_page g = λ k small.
    ap reads (row_wanted size first pages at k given s.bytes a count start small ∙ (ap (piece size k) e ∙ erased_piece size pages k small)) ∙ r.erased in
    let others : (row : ℕ) → row / pages ≢ block → page_in (read_rows reads size n t.bytes) row ≡ page_in (read_rows reads size n s.bytes) row = λ row ne.
    same_row reads size n row t.bytes s.bytes (rows_stay size first pages at row given done s t a count start (outside pages block row some ne) w) in
    record {
      cleared = λ d. rows_blank reads g size block at given (erased_page g) s t is.whole lt a e r.erased (subst (λ (b : Bool). WritesAll s at given b t) d w);
      torn = λ d row of_block.
          let k = inside pages block row some of_block in
          let lt_row : row < n = omega (arith, k.1, k.2, in_die) in
          left_as _ _ _ _ _ _ (row_is reads size n row s.bytes lt_row) (ap (λ q. reads (piece size q (over at given s.bytes))) k.2 ∙ here k.0 k.1) (row_is reads size n row t.bytes lt_row) (told.stands row);
      others = others;
      lasts = lasts_rows reads g size s t told.lasts;
      whole = λ _. images_of reads g size t r after;
    }

pub syncs : (reads : List ℕ → Page) (g : Geometry) (size : ℕ) (done : Bool) (s t : Bytes) → IsReading g size reads → IsOfRows g size s → s.failed_syncs ≡ 0 → SyncsBytes s done t → (IsTold size reads s s.bytes s → IsTold size reads s s.bytes t)
    → Syncs (rows_held reads g size s) done (rows_held reads g size t)
syncs reads g size done s t r is none settles tells =
    let told = tells (told_first size reads s.bytes s) in
    let n : ℕ = row_count g in
    record {
      same = ap (read_rows reads size n) settles.same;
      synced = λ d. ap (read_rows reads size n) (settles.synced d none);
      lasts = lasts_rows reads g size s t told.lasts;
      whole = λ _. images_of reads g size t r (settled_rows g size done s t is settles);
    }

-- nothing was asked of the file
pub unsynced : (reads : List ℕ → Page) (g : Geometry) (size : ℕ) (s : Bytes) → Syncs (rows_held reads g size s) false (rows_held reads g size s)
unsynced reads g size s = record {
  same = refl;
  synced = λ d. let no : ⊥ = cc in absurd no;
  lasts = lasts_rows reads g size s s (told_first size reads s.bytes s).lasts;
  whole = λ w. w;
}

-- ---- whether rows are kept

kept_parts : (a b : Bool) (n k : ℕ) → (a && (b && (n == k))) ≡ true → (a ≡ true) × (b ≡ true) × (n ≡ k)
kept_parts true true n k e = (refl, refl, eqb_yes (T_from_true (n == k) e))
kept_parts true false n k e = absurd (let no : ⊥ = cc in no)
kept_parts false b n k e = absurd (let no : ⊥ = cc in no)

pub same_and : (a a' b b' c c' : Bool) → a' ≡ a → b' ≡ b → (a ≡ true → c' ≡ c) → (a' && (b' && c')) ≡ (a && (b && c))
same_and true a' b b' c c' e f h = ap (λ z. z && (b' && c')) e ∙ (ap (λ z. z && c') f ∙ ap (λ z. b && z) (h refl))
same_and false a' b b' c c' e f h = ap (λ z. z && (b' && c')) e

pub kept_of : {F : Type 0} → (held : F → Bytes) (honest : F → Bool) (tells : F → ℕ → (List ℕ → Page) → Bool) (reads : List ℕ → Page) (r : Rows F) → is_kept held honest tells reads r ≡ true
    → (honest r.file ≡ true) × (tells r.file r.size reads ≡ true) × ((held r.file).failed_syncs ≡ syncs_lost r.sync_failed)
unfolding is_kept
kept_of held honest tells reads r e = kept_parts (honest r.file) (tells r.file r.size reads) (held r.file).failed_syncs (syncs_lost r.sync_failed) e

pub same_kept : {F : Type 0}
    → (held : F → Bytes) (honest : F → Bool) (tells : F → ℕ → (List ℕ → Page) → Bool) (reads : List ℕ → Page) (old new : Rows F)
    → honest new.file ≡ honest old.file → ((size : ℕ) → tells new.file size reads ≡ tells old.file size reads) → new.size ≡ old.size
    → (honest old.file ≡ true → ((held new.file).failed_syncs == syncs_lost new.sync_failed) ≡ ((held old.file).failed_syncs == syncs_lost old.sync_failed)) → is_kept held honest tells reads new ≡ is_kept held honest tells reads old
unfolding is_kept
same_kept held honest tells reads old new e f s h =
    same_and (honest old.file) (honest new.file) (tells old.file old.size reads) (tells new.file new.size reads) _ _ e (ap (λ n. tells new.file n reads) s ∙ f old.size) h

-- a file as it was taken
pub kept_first : {F : Type 0} → (held : F → Bytes) (honest : F → Bool) (tells : F → ℕ → (List ℕ → Page) → Bool) (reads : List ℕ → Page) (file : F) (r : Rows F) → r.sync_failed ≡ false → honest r.file ≡ honest file → tells r.file r.size reads ≡ tells file r.size reads
    → (honest file ≡ true → (held r.file).failed_syncs ≡ (held file).failed_syncs) → is_kept held honest tells reads r ≡ (honest file && (tells file r.size reads && ((held file).failed_syncs == 0)))
unfolding is_kept
kept_first held honest tells reads file r lost e f h =
    same_and (honest file) (honest r.file) (tells file r.size reads) (tells r.file r.size reads) _ _ e f (λ k. ap (λ n. n == syncs_lost r.sync_failed) (h k) ∙ ap (λ b. (held file).failed_syncs == syncs_lost b) lost)

pub rows_of : {F : Type 0} → (held : F → Bytes) (honest : F → Bool) (tells : F → ℕ → (List ℕ → Page) → Bool) (reads : List ℕ → Page) (r : Rows F) (erased : List ℕ) → AreRows (honest r.file) (held r.file) r.geometry r.size erased r.failures r.fault r.sync_failed
    → is_kept held honest tells reads r ≡ true → IsOfRows r.geometry r.size (held r.file)
rows_of held honest tells reads r erased parts e =
    let k = kept_of held honest tells reads r e in
    record { whole = parts.whole k.0; lasts = parts.lasts k.0 k.2; fit = parts.fit k.0 }

-- rows by their parts
pub held_is : {F : Type 0} → (held : F → Bytes) (reads : List ℕ → Page) (r : Rows F) (file : F) (g : Geometry) (size : ℕ) → r.file ≡ file → r.geometry ≡ g → r.size ≡ size → rows_held reads g size (held file) ≡ held_in held reads r
held_is held reads r file g size a b d =
    ap (λ (z : Geometry). rows_held reads z size (held file)) (sym b) ∙ (ap (λ n. rows_held reads r.geometry n (held file)) (sym d) ∙ ap (λ z. rows_held reads r.geometry r.size (held z)) (sym a))

-- ---- bytes that are pages

pub plain_reading : (g : Geometry) (size : ℕ) → size ≡ page_bytes g → IsReading g size (page_of g)
plain_reading g size e = record {
  pages = λ bytes l fits. record {
    body_size = omega (arith, length-take g.data_bytes bytes, l, e);
    spare_size = omega (arith, length-drop g.data_bytes bytes, l, e);
    body_fits = fits_take g.data_bytes bytes fits;
    spare_fits = fits_drop g.data_bytes bytes fits;
  };
  erased = page_of_blank g size e;
}

-- ---- calls, as they are settled

-- a file that is as it was, but for what stands and lasts
pub kept_settled : {F : Type 0} → (held : F → Bytes) (honest : F → Bool) (tells : F → ℕ → (List ℕ → Page) → Bool) (old new : Rows F) (file : F) → new.file ≡ file → honest file ≡ honest old.file
    → ((size : ℕ) (reads : List ℕ → Page) → tells file size reads ≡ tells old.file size reads) → new.size ≡ old.size → new.sync_failed ≡ old.sync_failed → (honest old.file ≡ true → (held file).failed_syncs ≡ (held old.file).failed_syncs)
    → (reads : List ℕ → Page) → is_kept held honest tells reads new ≡ is_kept held honest tells reads old
kept_settled held honest tells old new file f h t s l k reads =
    same_kept held honest tells reads old new (ap honest f ∙ h) (λ size. ap (λ z. tells z size reads) f ∙ t size reads) s
    (λ is. ap (λ z. (held z).failed_syncs == syncs_lost new.sync_failed) f ∙ (ap (λ n. n == syncs_lost new.sync_failed) (k is) ∙ ap (λ b. (held old.file).failed_syncs == syncs_lost b) l))

-- the parts after a write within the rows
pub parts_written : (a b : Bool) (s t : Bytes) (g : Geometry) (size at : ℕ) (given erased : List ℕ) (done : Bool) (failures : ℕ) (fault : Option ByteFault) (lost : Bool) → b ≡ a → AreRows a s g size erased failures fault lost → at + length given ≤ row_count g * size
    → ((i : ℕ) → slice_index given i < 256) → (a ≡ true → at ≤ length s.bytes → WritesAll s at given done t) → AreRows b t g size erased failures fault lost
parts_written a b s t g size at given erased done failures fault lost e parts l fits writes = record {
  whole = λ h. let h' = sym e ∙ h in length_mixed n s.bytes (over at given s.bytes) t.bytes (wrote h').mixes (parts.whole h') (length_over at given s.bytes (within h') ∙ parts.whole h');
  lasts = λ h k. let h' = sym e ∙ h in
      let w = wrote h' in
      length_lasts n s.durable s.bytes t.bytes t.durable w.lasts (parts.lasts h' (sym w.syncs ∙ k)) (parts.whole h') (length_mixed n s.bytes (over at given s.bytes) t.bytes w.mixes (parts.whole h') (length_over at given s.bytes (within h') ∙ parts.whole h'));
  fit = λ h. let h' = sym e ∙ h in
      let w = wrote h' in
      let old = parts.fit h' in
      let new = fits_mixed s.bytes (over at given s.bytes) t.bytes w.mixes old.bytes_fit (fits_over at given s.bytes (starts h') fits old.bytes_fit) in
      record { bytes_fit = new; durable_fit = fits_lasts s.durable s.bytes t.bytes t.durable w.lasts old.durable_fit old.bytes_fit new };
  blank = parts.blank;
  told = parts.told;
}
  where
    n : ℕ
    n = row_count g * size

    within : a ≡ true → at + length given ≤ length s.bytes
    within h = omega (arith, parts.whole h, l)

    starts : a ≡ true → at ≤ length s.bytes
    starts h = omega (arith, within h)

    wrote : a ≡ true → WritesAll s at given done t
    wrote h = writes h (starts h)

none_before : (n : ℕ) (done : Bool) (m : ℕ) (lost : Bool) → m ≡ (if done then n else suc n) → m ≡ syncs_lost lost → (done ≡ true → lost ≡ false) → (done ≡ false → lost ≡ true) → n ≡ 0
none_before n true m lost e f held broke = sym e ∙ (f ∙ ap syncs_lost (held refl))
none_before n false m lost e f held broke = let is : m ≡ 1 = f ∙ ap syncs_lost (broke refl) in omega (arith, e, is)

-- and after a sync that was asked for, where none had failed
pub parts_settled : (a b : Bool) (s t : Bytes) (g : Geometry) (size : ℕ) (erased : List ℕ) (done : Bool) (failures : ℕ) (fault : Option ByteFault) (lost : Bool) → b ≡ a → AreRows a s g size erased failures fault false → (a ≡ true → SyncsBytes s done t)
    → (done ≡ true → lost ≡ false) → (done ≡ false → lost ≡ true) → AreRows b t g size erased failures fault lost
parts_settled a b s t g size erased done failures fault lost e parts settles held broke = record {
  whole = λ h. let h' = sym e ∙ h in ap length (settles h').same ∙ parts.whole h';
  lasts = λ h k. let h' = sym e ∙ h in
      let w = settles h' in
      length_lasts (row_count g * size) s.durable s.bytes t.bytes t.durable w.lasts (parts.lasts h' (none_before s.failed_syncs done t.failed_syncs lost w.syncs k held broke)) (parts.whole h') (ap length w.same ∙ parts.whole h');
  fit = λ h. let h' = sym e ∙ h in
      let w = settles h' in
      let old = parts.fit h' in
      let new : (i : ℕ) → slice_index t.bytes i < 256 = subst (λ xs. (i : ℕ) → slice_index xs i < 256) (sym w.same) old.bytes_fit in
      record { bytes_fit = new; durable_fit = fits_lasts s.durable s.bytes t.bytes t.durable w.lasts old.durable_fit old.bytes_fit new };
  blank = parts.blank;
  told = parts.told;
}

pub row_within : (row n size at : ℕ) (given : List ℕ) → row < n → at ≡ row * size → length given ≡ size → at + length given ≤ n * size
row_within row n size at given lt a l =
    let m : suc row * size ≤ n * size = mul-le-mul_right size lt in
    let s : suc row * size ≡ row * size + size = omega arith in
    omega (arith, m, s, a, l)

pub block_within_rows : (g : Geometry) (size block at : ℕ) (given : List ℕ) → block < g.blocks → at ≡ block * g.pages * size → given ≡ replicate (g.pages * size) 255 → at + length given ≤ row_count g * size
block_within_rows g size block at given lt a e =
    let m : (block * g.pages + g.pages) * size ≤ row_count g * size = mul-le-mul_right size (block_within g block lt) in
    let s : (block * g.pages + g.pages) * size ≡ block * g.pages * size + g.pages * size = omega arith in
    omega (arith, m, s, a, ap length e ∙ length-replicate (g.pages * size) 255)

-- the parts after a read
pub parts_read : (a b : Bool) (s t : Bytes) (g : Geometry) (size : ℕ) (erased : List ℕ) (failures : ℕ) (fault : Option ByteFault) (lost : Bool) → b ≡ a → AreRows a s g size erased failures fault lost → (a ≡ true → t ≡ s) → AreRows b t g size erased failures fault lost
parts_read a b s t g size erased failures fault lost e parts same = record {
  whole = λ h. let h' = sym e ∙ h in ap (λ (x : Bytes). length x.bytes) (same h') ∙ parts.whole h';
  lasts = λ h k. let h' = sym e ∙ h in ap (λ (x : Bytes). length x.durable) (same h') ∙ parts.lasts h' (ap (λ (x : Bytes). x.failed_syncs) (sym (same h')) ∙ k);
  fit = λ h. let h' = sym e ∙ h in subst HoldsOnlyBytes (sym (same h')) (parts.fit h');
  blank = parts.blank;
  told = parts.told;
}

pub gives_at : {F : Type 0} → (gave : F → ℕ → ℕ → Result (List ℕ) ByteFault → F → Type 0) (old : F) (at other : ℕ) (bytes : List ℕ) (file new : F) → at ≡ other → file ≡ new → Gives gave old at bytes file → Gives gave old other bytes new
gives_at gave old at other bytes file new a f g = subst (λ z. Gives gave old other bytes z) f (subst (λ k. Gives gave old k bytes file) a g)

pub takes_at : {F : Type 0} → (wrote : F → ℕ → List ℕ → Result ℕ ByteFault → F → Type 0) (old : F) (at other n : ℕ) (bytes : List ℕ) (file new : F) → at ≡ other → file ≡ new → TakesBytes wrote old at bytes n file → TakesBytes wrote old other bytes n new
takes_at wrote old at other n bytes file new a f t = subst (λ z. TakesBytes wrote old other bytes n z) f (subst (λ k. TakesBytes wrote old k bytes n file) a t)

pub takes_blank : {F : Type 0} → (wrote : F → ℕ → List ℕ → Result ℕ ByteFault → F → Type 0) (old : F) (at n : ℕ) (bytes : List ℕ) (file : F) → bytes ≡ replicate n 255 → TakesBytes wrote old at bytes (length bytes) file → TakesBytes wrote old at (replicate n 255) n file
takes_blank wrote old at n bytes file e t = subst (λ k. TakesBytes wrote old at (replicate n 255) k file) (length-replicate n 255) (subst (λ (xs : List ℕ). TakesBytes wrote old at xs (length xs) file) e t)

pub where_stopped : {F : Type 0} → (wrote : F → ℕ → List ℕ → Result ℕ ByteFault → F → Type 0) (old : F) (at other : ℕ) (bytes : List ℕ) (file new : F) (answer : Result (Unit {0}) ByteFault) (result : Result (Unit {0}) StoreFault)
    → at ≡ other → file ≡ new → is_ok result ≡ is_ok answer → OnErr answer (TakesFewer wrote old at bytes file) → OnErr result (TakesFewer wrote old other bytes new)
where_stopped wrote old at other bytes file new answer (Ok done) a f same by = tt
where_stopped wrote old at other bytes file new (Ok done) (Err fault) a f same by = let no : ⊥ = cc in absurd no
where_stopped wrote old at other bytes file new (Err why) (Err fault) a f same by = (by.0, by.1, takes_at wrote old at other by.0 bytes file new a f by.2)

pub fewer_blank : {F : Type 0} → (wrote : F → ℕ → List ℕ → Result ℕ ByteFault → F → Type 0) (old : F) (at n : ℕ) (bytes : List ℕ) (file : F) (answer : Result (Unit {0}) ByteFault)
    → bytes ≡ replicate n 255 → OnErr answer (TakesFewer wrote old at bytes file) → OnErr answer (TakesFewer wrote old at (replicate n 255) file)
fewer_blank wrote old at n bytes file answer e = subst (λ (xs : List ℕ). OnErr answer (TakesFewer wrote old at xs file)) e

-- the parts of a file as it was taken: what stands in it was made to last
pub parts_taken : (a b m : Bool) (u s t : Bytes) (g : Geometry) (size found : ℕ) (erased : List ℕ) → m ≡ a → b ≡ m → (a ≡ true → s ≡ u) → (a ≡ true → found ≡ length u.bytes) → (a ≡ true → HoldsOnlyBytes u) → found ≡ row_count g * size
    → (m ≡ true → SyncsBytes s true t) → erased ≡ replicate (g.pages * size) 255 → AreRows b t g size erased 0 None false
parts_taken a b m u s t g size found erased e f same long fits n settles blank = record {
  whole = λ h. let m' = sym f ∙ h in let h' = sym e ∙ m' in ap length (settles m').same ∙ (ap (λ (x : Bytes). length x.bytes) (same h') ∙ (sym (long h') ∙ n));
  lasts = λ h k. let m' = sym f ∙ h in let h' = sym e ∙ m' in
      let w = settles m' in
      ap length (w.synced refl (sym w.syncs ∙ k)) ∙ (ap (λ (x : Bytes). length x.bytes) (same h') ∙ (sym (long h') ∙ n));
  fit = λ h. let m' = sym f ∙ h in let h' = sym e ∙ m' in
      let w = settles m' in
      let old : HoldsOnlyBytes s = subst HoldsOnlyBytes (sym (same h')) (fits h') in
      let new : (i : ℕ) → slice_index t.bytes i < 256 = subst (λ xs. (i : ℕ) → slice_index xs i < 256) (sym w.same) old.bytes_fit in
      record { bytes_fit = new; durable_fit = fits_lasts s.durable s.bytes t.bytes t.durable w.lasts old.durable_fit old.bytes_fit new };
  blank = blank;
  told = (λ z. refl, λ z. refl);
}

-- whether a sync failed, by its answer
pub lost_by : {A E : Type 0} → (answer : Result A E) (lost : Bool) → lost ≡ is_err answer → (is_ok answer ≡ true → lost ≡ false) × (is_ok answer ≡ false → lost ≡ true)
lost_by (Ok x) lost e = (λ z. e, λ z. let no : ⊥ = cc in absurd no)
lost_by (Err x) lost e = (λ z. let no : ⊥ = cc in absurd no, λ z. e)

no_more : (n k : ℕ) → n ≤ k → k ≤ n → (n == k) ≡ true
no_more n k a b = grind (arith, nat_tests)

more : (n k : ℕ) → k < n → (n == k) ≡ false
more n k lt = grind (arith, nat_tests)

one_more : (n : ℕ) → (suc n == 1) ≡ (n == 0)
one_more n = elim (cases_lt 0 n) [
  | inl some ↦ more (suc n) 1 (omega (arith, some)) ∙ sym (more n 0 some)
  | inr none ↦ no_more (suc n) 1 (omega (arith, none)) (omega arith) ∙ sym (no_more n 0 none (omega arith))
]

-- and so it is counted
pub counts_lost : (n m : ℕ) (done lost : Bool) → m ≡ (if done then n else suc n) → (done ≡ true → lost ≡ false) → (done ≡ false → lost ≡ true) → (m == syncs_lost lost) ≡ (n == 0)
counts_lost n m true lost e held broke = ap (λ k. k == syncs_lost lost) e ∙ ap (λ b. n == syncs_lost b) (held refl)
counts_lost n m false lost e held broke = ap (λ k. k == syncs_lost lost) e ∙ (ap (λ b. suc n == syncs_lost b) (broke refl) ∙ one_more n)
