-- Rows of pages with their codes are, as they read, those of a store.
use Rattle.std.proofs.Common.{◌≡◌, ℕ, ◌+◌, ◌-◌, ◌*◌, ◌<◌, ◌≤◌, zero, suc, Bool, List, [], ◌∷◌, length, take, drop, map, replicate, refl, sym, ap, ◌∙◌, subst, arith}
use Rattle.std.specs.Prelude.{Result, Ok, Err, OnOk, OnErr}
use Rattle.std.specs.List.{range_with_len}
use Rattle.std.proofs.Math.Nat.{mul-le-mul_right}
use Rattle.std.proofs.lemmas.List.{ext_get_or, get_or-replicate, length-replicate, take-replicate, drop-replicate}
use Rattle.page_layout.specs.declared.geometry.Geometry.{Geometry}
use Rattle.page_layout.specs.Geometry.{row_count}
use Rattle.page_layout.specs.Page.{Page, page}
use Rattle.page_layout.specs.Flash.{no_page, with_block}
use Rattle.onfi_cycles.specs.Cycles.{page_of}
use Rattle.page_code.specs.Layout.{coded, outer_bytes}
use Rattle.file_die.specs.Bytes.{Bytes, TakesBytes, TakesFewer, piece}
use Rattle.file_die.specs.declared.bytes.ByteFault.{ByteFault}
use Rattle.file_die.specs.declared.store.StoreFault.{StoreFault}
use Rattle.file_die.specs.Rows.{Rows, IsReading, read_rows, held_in}
use Rattle.file_die.specs.Store.{Puts, page_in}
use Rattle.file_die.proofs.RowLemmas.{rows_length, row_is}
use Rattle.coded_store.specs.Reading.{coded_bytes, read_as, page_as_read, erased_with_codes}
use Rattle.coded_store.specs.Coded.{TakesWithCodes, TakesFewerWithCodes}
use Rattle.coded_store.specs.File.{image_with_codes}
use Rattle.coded_store.specs.Laws.{BlankLaw, BlankFileLaw, RowsLaw}
use Rattle.coded_store.proofs.ReadLemmas.{read_sized}
use Rattle.coded_store.proofs.LawLemmas.{erased_reads}
use Rattle.coded_store.proofs.ShowLemmas.{stands_with_codes}

-- ---- how rows are read

blank_page : (g : Geometry) (size : ℕ) → size ≡ coded_bytes g → page_of g (replicate size 255) ≡ erased_with_codes g
blank_page g size e =
    let d = g.data_bytes in
    let rest : size - d ≡ outer_bytes g = omega arith in
    ap (λ z. page z (drop d (replicate size 255))) (take-replicate d size 255 (omega arith)) ∙ ap (λ z. page (replicate d 255) z) (drop-replicate d size 255 ∙ ap (λ k. replicate k 255) rest)

-- each row reads as a page of the die, and erased bytes as an erased one
pub coded_reading : (g : Geometry) (size : ℕ) → size ≡ coded_bytes g → IsReading g size (page_as_read g)
coded_reading g size e = record {
  pages = λ bytes l fits. read_sized g (page_of g bytes) (stands_with_codes g bytes (l ∙ e) fits);
  erased = ap (read_as g) (blank_page g size e) ∙ erased_reads g;
}

-- ---- what stands in a file

map_twice : (f : Page → Page) (h : ℕ → Page) (xs : List ℕ) → map (λ x. f (h x)) xs ≡ map f (map h xs)
map_twice f h [] = refl
map_twice f h (x ∷ xs) = ap (λ z. f (h x) ∷ z) (map_twice f h xs)

pub rows_law : RowsLaw
unfolding read_rows
rows_law g bytes = map_twice (read_as g) (λ row. page_of g (piece (coded_bytes g) row bytes)) (range_with_len 0 (row_count g))

-- the bytes of a row are the page that stands there
pub stood_at : (g : Geometry) (size row : ℕ) (given bytes : List ℕ) → size ≡ coded_bytes g → row < row_count g → given ≡ piece size row bytes → page_of g given ≡ page_in (image_with_codes g bytes) row
stood_at g size row given bytes is lt e = ap (page_of g) (e ∙ ap (λ n. piece n row bytes) is) ∙ sym (row_is (page_of g) (coded_bytes g) (row_count g) row bytes lt)

-- ---- calls

-- what a write took, and what one that failed took, are the bytes of the page with its codes
pub takes_with_codes : {F : Type 0} → (wrote : F → ℕ → List ℕ → Result ℕ ByteFault → F → Type 0) (g : Geometry) (row size : ℕ) (p : Page) (bytes : List ℕ) (old new : Rows F) (result : Result (Unit {0}) StoreFault) → size ≡ coded_bytes g → page_of g bytes ≡ coded g p
    → OnOk result (TakesBytes wrote old.file (row * size) bytes (length bytes) new.file) → OnOk result (TakesWithCodes wrote g row p old new)
takes_with_codes wrote g row size p bytes old new (Ok done) e are takes = record { bytes = bytes; are = are; takes = subst (λ n. TakesBytes wrote old.file (row * n) bytes (length bytes) new.file) e takes }
takes_with_codes wrote g row size p bytes old new (Err fault) e are takes = tt

pub takes_fewer_with_codes : {F : Type 0} → (wrote : F → ℕ → List ℕ → Result ℕ ByteFault → F → Type 0) (g : Geometry) (row size : ℕ) (p : Page) (bytes : List ℕ) (old new : Rows F) (result : Result (Unit {0}) StoreFault) → size ≡ coded_bytes g → page_of g bytes ≡ coded g p
    → OnErr result (TakesFewer wrote old.file (row * size) bytes new.file) → OnErr result (TakesFewerWithCodes wrote g row p old new)
takes_fewer_with_codes wrote g row size p bytes old new (Ok done) e are takes = tt
takes_fewer_with_codes wrote g row size p bytes old new (Err fault) e are takes = record { bytes = bytes; are = are; takes = subst (λ n. TakesFewer wrote old.file (row * n) bytes new.file) e takes }

-- a put is of what was given, which is what is shown of its codes and it
pub puts_shown : {F : Type 0} → (held : F → Bytes) (old new : Rows F) (row : ℕ) (bytes : List ℕ) (p : Page) (done : Bool) → new.geometry ≡ old.geometry → page_as_read old.geometry bytes ≡ p
    → Puts (held_in held (page_as_read old.geometry) old) row (page_as_read old.geometry bytes) done (held_in held (page_as_read old.geometry) new) → Puts (held_in held (page_as_read old.geometry) old) row p done (held_in held (page_as_read new.geometry) new)
puts_shown held old new row bytes p done e is w =
    subst (λ (z : Geometry). Puts (held_in held (page_as_read old.geometry) old) row p done (held_in held (page_as_read z) new)) (sym e)
    (subst (λ (q : Page). Puts (held_in held (page_as_read old.geometry) old) row q done (held_in held (page_as_read old.geometry) new)) is w)

-- a clear of a block is of erased pages with erased codes, as they stand
pub clears_with_codes : {F : Type 0} → (held : F → Bytes) (old new : Rows F) (block : ℕ) → old.size ≡ coded_bytes old.geometry → new.geometry ≡ old.geometry → new.size ≡ old.size
    → (held_in held (page_of old.geometry) new).pages ≡ with_block old.geometry.pages block (replicate old.geometry.pages (page_of old.geometry (replicate old.size 255))) (held_in held (page_of old.geometry) old).pages
    → image_with_codes new.geometry (held new.file).bytes ≡ with_block old.geometry.pages block (replicate old.geometry.pages (erased_with_codes old.geometry)) (image_with_codes old.geometry (held old.file).bytes)
clears_with_codes held old new block sized same size h =
    let g : Geometry = old.geometry in
    ap (λ (z : Geometry). image_with_codes z (held new.file).bytes) same
    ∙ (ap (λ n. read_rows (page_of g) n (row_count g) (held new.file).bytes) (sym (size ∙ sized)) ∙ (ap (λ (z : Geometry). read_rows (page_of g) new.size (row_count z) (held new.file).bytes) (sym same)
    ∙ (h ∙ (ap (λ p. with_block g.pages block (replicate g.pages p) (read_rows (page_of g) old.size (row_count g) (held old.file).bytes)) (blank_page g old.size sized)
    ∙ ap (λ n. with_block g.pages block (replicate g.pages (erased_with_codes g)) (read_rows (page_of g) n (row_count g) (held old.file).bytes)) sized))))

-- ---- erased pages

fill_reads : (f : Page → Page) (n : ℕ) (p : Page) → map f (replicate n p) ≡ replicate n (f p)
fill_reads f zero p = refl
fill_reads f (suc n) p = ap (λ z. f p ∷ z) (fill_reads f n p)

pub blank_law : BlankLaw
blank_law g = fill_reads (read_as g) (row_count g) (erased_with_codes g) ∙ ap (replicate (row_count g)) (erased_reads g)

erased_piece : (size n row : ℕ) → row < n → piece size row (replicate (n * size) 255) ≡ replicate size 255
erased_piece size n row lt =
    let m : suc row * size ≤ n * size = mul-le-mul_right size lt in
    let e : suc row * size ≡ row * size + size = omega arith in
    ap (take size) (drop-replicate (row * size) (n * size) 255) ∙ take-replicate size (n * size - row * size) 255 (omega (arith, m, e))

pub blank_file_law : BlankFileLaw
blank_file_law g =
    let n : ℕ = row_count g in
    let size : ℕ = coded_bytes g in
    let bytes : List ℕ = replicate (n * size) 255 in
    let is_long = rows_length (page_of g) size n bytes in
    ext_get_or no_page (image_with_codes g bytes) (replicate n (erased_with_codes g)) (is_long ∙ sym (length-replicate n (erased_with_codes g))) (λ row l.
    let lt : row < n = subst (λ k. row < k) is_long l in
    row_is (page_of g) size n row bytes lt ∙ (ap (page_of g) (erased_piece size n row lt) ∙ (blank_page g size refl ∙ sym (get_or-replicate n row (erased_with_codes g) no_page lt))))
