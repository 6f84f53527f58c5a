-- The pages of an array of bytes, one after another, and what a write of one or of a block changes.
use Rattle.std.proofs.Common.{◌≡◌, ℕ, zero, suc, ◌+◌, ◌-◌, ◌*◌, ◌<◌, ◌≤◌, List, [], ◌∷◌, ◌++◌, take, drop, length, map, replicate, refl, sym, ◌∙◌}
use Rattle.std.proofs.Common.{ap, subst, arith, append_assoc, length-drop, get_or}
use Rattle.std.specs.Prelude.{slice_set}
use Rattle.std.specs.List.{range_with_len}
use Rattle.std.proofs.Math.Nat.{mul-le-mul_right}
use Rattle.std.proofs.Math.Seq.{take-append_seam, drop-append_seam, take-append-add, drop-append-add}
use Rattle.std.proofs.lemmas.List.{length-take-le, take-append-drop, take-take, drop-take, drop-drop, length-replicate, drop-replicate}
use Rattle.std.proofs.lemmas.List.{take-replicate, replicate-append-replicate}
use Rattle.page_layout.specs.declared.geometry.Geometry.{Geometry}
use Rattle.page_layout.specs.Geometry.{page_bytes, row_count}
use Rattle.page_layout.specs.Page.{Page, page}
use Rattle.page_layout.specs.Raw.{page_from, raw_image}
use Rattle.page_layout.specs.Change.{erased_page}
use Rattle.page_layout.specs.Flash.{no_page, with_block}
use Rattle.onfi_cycles.specs.Cycles.{page_of}
use Rattle.nand_die.specs.Tape.{pages_of}

pub length-pages_of : (g : Geometry) (n : ℕ) (bytes : List ℕ) → length (pages_of g n bytes) ≡ n
length-pages_of g zero bytes = refl
length-pages_of g (suc n) bytes = ap suc (length-pages_of g n _)

page_from_is : (g : Geometry) (bytes : List ℕ) (at : ℕ) → page_from g bytes at ≡ page_of g (take (page_bytes g) (drop at bytes))
page_from_is g bytes at =
    let d : ℕ = g.data_bytes in
    let s : ℕ = g.spare_bytes in
    let rest : List ℕ = drop at bytes in
    let body : take (at + d - at) rest ≡ take d (take (d + s) rest) = ap (λ n. take n rest) (omega arith) ∙ sym (take-take d (d + s) rest (omega arith)) in
    let spare : take (at + (d + s) - (at + d)) (drop (at + d) bytes) ≡ drop d (take (d + s) rest)
    = ap (λ n. take n (drop (at + d) bytes)) (omega arith) ∙ (ap (take s) (sym (drop-drop d at bytes)) ∙ sym (drop-take d s rest)) in
    ap (λ b. page b (take (at + (d + s) - (at + d)) (drop (at + d) bytes))) body ∙ ap (page (take d (take (d + s) rest))) spare

rows_from : (g : Geometry) (bytes : List ℕ) (a n : ℕ) → map (λ row. page_from g bytes (row * page_bytes g)) (range_with_len a n) ≡ pages_of g n (drop (a * page_bytes g) bytes)
rows_from g bytes a zero = refl
rows_from g bytes a (suc n) =
    let z : ℕ = page_bytes g in
    let next : drop ((a + 1) * z) bytes ≡ drop z (drop (a * z) bytes) = ap (λ k. drop k bytes) (omega arith) ∙ sym (drop-drop z (a * z) bytes) in
    ap (λ p. p ∷ map (λ row. page_from g bytes (row * z)) (range_with_len (a + 1) n)) (page_from_is g bytes (a * z))
    ∙ ap (λ ps. page_of g (take z (drop (a * z) bytes)) ∷ ps) (rows_from g bytes (a + 1) n ∙ ap (pages_of g n) next)

-- a raw image is its pages
pub raw_image_is : (g : Geometry) (bytes : List ℕ) → raw_image g bytes ≡ pages_of g (row_count g) bytes
unfolding raw_image
raw_image_is g bytes = rows_from g bytes 0 (row_count g) ∙ ap (λ k. pages_of g (row_count g) (drop k bytes)) none
  where
    none : 0 * page_bytes g ≡ 0
    none = omega arith

-- ---- one page

pub pages_suc : (g : Geometry) (n : ℕ) (u w : List ℕ) → length u ≡ page_bytes g → pages_of g (suc n) (u ++ w) ≡ page_of g u ∷ pages_of g n w
pages_suc g n u w e = ap (λ k. page_of g (take k (u ++ w)) ∷ pages_of g n (drop k (u ++ w))) (sym e)
    ∙ (ap (λ xs. page_of g xs ∷ pages_of g n (drop (length u) (u ++ w))) (take-append_seam u w) ∙ ap (λ xs. page_of g u ∷ pages_of g n xs) (drop-append_seam u w))

-- bytes in the place of as many others
abbrev put : ℕ → ℕ → List ℕ → List ℕ → List ℕ
put a k xs ys = take a xs ++ (ys ++ drop k (drop a xs))

put_behind : (u v ys : List ℕ) (b k : ℕ) → put (length u + b) k (u ++ v) ys ≡ u ++ put b k v ys
put_behind u v ys b k = ap (λ xs. xs ++ (ys ++ drop k (drop (length u + b) (u ++ v)))) (take-append-add u v b)
    ∙ (ap (λ xs. (u ++ take b v) ++ (ys ++ drop k xs)) (drop-append-add u v b) ∙ append_assoc u (take b v) (ys ++ drop k (drop b v)))

put_page : (g : Geometry) (n r a : ℕ) (xs ys : List ℕ) → r < n → a ≡ r * page_bytes g → length xs ≡ n * page_bytes g → length ys ≡ page_bytes g
    → pages_of g n (put a (page_bytes g) xs ys) ≡ slice_set (pages_of g n xs) r (page_of g ys)
put_page g zero r a xs ys lt at lx ly = absurd (omega arith)
put_page g (suc n) zero a xs ys lt at lx ly =
    let z : a ≡ 0 = omega (arith, at) in
    ap (λ k. pages_of g (suc n) (put k (page_bytes g) xs ys)) z ∙ pages_suc g n ys (drop (page_bytes g) xs) ly
put_page g (suc n) (suc r) a xs ys lt at lx ly =
    let z : ℕ = page_bytes g in
    let u : List ℕ = take z xs in
    let v : List ℕ = drop z xs in
    let lu : length u ≡ z = length-take-le z xs (omega (arith, lx)) in
    let lv : length v ≡ n * z = omega (arith, lx, length-drop z xs) in
    let e : a ≡ length u + r * z = omega (arith, at, lu) in
    ap (λ k. pages_of g (suc n) (put k z xs ys)) e
    ∙ (ap (λ t. pages_of g (suc n) (put (length u + r * z) z t ys)) (sym (take-append-drop z xs))
    ∙ (ap (pages_of g (suc n)) (put_behind u v ys (r * z) z)
    ∙ (pages_suc g n u (put (r * z) z v ys) lu
    ∙ ap (λ ps. page_of g u ∷ ps) (put_page g n r (r * z) v ys (omega arith) refl lv ly))))

-- a page is written
pub page_written : (g : Geometry) (row a k : ℕ) (xs ys bytes : List ℕ) → row < row_count g → a ≡ row * page_bytes g → k ≡ page_bytes g → ys ≡ bytes → length xs ≡ row_count g * page_bytes g → length bytes ≡ page_bytes g
    → raw_image g (take a xs ++ (ys ++ drop k (drop a xs))) ≡ slice_set (raw_image g xs) row (page_of g bytes)
page_written g row a k xs ys bytes lt at is_k is lx ly =
    raw_image_is g (put a k xs ys) ∙ (ap (λ j. pages_of g (row_count g) (put a j xs ys)) is_k ∙ (ap (λ zs. pages_of g (row_count g) (put a (page_bytes g) xs zs)) is
    ∙ (put_page g (row_count g) row a xs bytes lt at lx ly ∙ ap (λ ps. slice_set ps row (page_of g bytes)) (sym (raw_image_is g xs)))))

page_there : (g : Geometry) (n r a : ℕ) (xs : List ℕ) → r < n → a ≡ r * page_bytes g → get_or (pages_of g n xs) r no_page ≡ page_of g (take (page_bytes g) (drop a xs))
page_there g zero r a xs lt at = absurd (omega arith)
page_there g (suc n) zero a xs lt at =
    let z : a ≡ 0 = omega (arith, at) in
    ap (λ k. page_of g (take (page_bytes g) (drop k xs))) (sym z)
page_there g (suc n) (suc r) a xs lt at =
    let z : ℕ = page_bytes g in
    let e : z + r * z ≡ a = omega (arith, at) in
    page_there g n r (r * z) (drop z xs) (omega arith) refl ∙ ap (λ ys. page_of g (take z ys)) (drop-drop (r * z) z xs ∙ ap (λ k. drop k xs) e)

-- a page is read
pub page_read : (g : Geometry) (row a : ℕ) (bytes : List ℕ) → row < row_count g → a ≡ row * page_bytes g → get_or (raw_image g bytes) row no_page ≡ page_of g (take (page_bytes g) (drop a bytes))
page_read g row a bytes lt at = ap (λ ps. get_or ps row no_page) (raw_image_is g bytes) ∙ page_there g (row_count g) row a bytes lt at

-- ---- a block

-- pages in front of others
pub pages_append : (g : Geometry) (m n : ℕ) (u w : List ℕ) → length u ≡ m * page_bytes g → pages_of g (m + n) (u ++ w) ≡ pages_of g m u ++ pages_of g n w
pages_append g zero n [] w e = ap (λ k. pages_of g k w) (omega arith)
pages_append g zero n (x ∷ u) w e = absurd (omega (arith, e))
pages_append g (suc m) n u w e =
    let z : ℕ = page_bytes g in
    let a : List ℕ = take z u in
    let b : List ℕ = drop z u in
    let la : length a ≡ z = length-take-le z u (omega (arith, e)) in
    let lb : length b ≡ m * z = omega (arith, e, length-drop z u) in
    let split : u ++ w ≡ a ++ (b ++ w) = ap (λ xs. xs ++ w) (sym (take-append-drop z u)) ∙ append_assoc a b w in
    let k : suc m + n ≡ suc (m + n) = omega arith in
    ap (λ j. pages_of g j (u ++ w)) k ∙ (ap (pages_of g (suc (m + n))) split ∙ (pages_suc g (m + n) a (b ++ w) la ∙ ap (λ ps. page_of g a ∷ ps) (pages_append g m n b w lb)))

-- a page of bytes FFh
pub page_of_blank : (g : Geometry) (n : ℕ) → n ≡ page_bytes g → page_of g (replicate n 255) ≡ erased_page g
page_of_blank g n e = ap (λ xs. page xs (drop g.data_bytes (replicate n 255))) (take-replicate g.data_bytes n 255 (omega (arith, e)))
    ∙ (ap (page (replicate g.data_bytes 255)) (drop-replicate g.data_bytes n 255) ∙ ap (λ j. page (replicate g.data_bytes 255) (replicate j 255)) (omega (arith, e)))

pages_of_blank : (g : Geometry) (n : ℕ) → pages_of g n (replicate (n * page_bytes g) 255) ≡ replicate n (erased_page g)
pages_of_blank g zero = refl
pages_of_blank g (suc n) =
    let z : ℕ = page_bytes g in
    let k : suc n * z ≡ z + n * z = omega arith in
    ap (λ j. pages_of g (suc n) (replicate j 255)) k
    ∙ (ap (pages_of g (suc n)) (sym (replicate-append-replicate z (n * z) 255))
    ∙ (pages_suc g n (replicate z 255) (replicate (n * z) 255) (length-replicate z 255)
    ∙ (ap (λ p. p ∷ pages_of g n (replicate (n * z) 255)) (page_of_blank g z refl) ∙ ap (λ ps. erased_page g ∷ ps) (pages_of_blank g n))))

-- an array of bytes FFh
pub blank_image : (g : Geometry) (n : ℕ) → n ≡ row_count g * page_bytes g → raw_image g (replicate n 255) ≡ replicate (row_count g) (erased_page g)
blank_image g n e = raw_image_is g (replicate n 255) ∙ (ap (λ k. pages_of g (row_count g) (replicate k 255)) e ∙ pages_of_blank g (row_count g))

-- a list in three parts
first_part : (u v w : List Page) (a : ℕ) → length u ≡ a → take a (u ++ (v ++ w)) ≡ u
first_part u v w a e = ap (λ k. take k (u ++ (v ++ w))) (sym e) ∙ take-append_seam u (v ++ w)

last_part : (u v w : List Page) (a b : ℕ) → length u ≡ a → length v ≡ b → drop (a + b) (u ++ (v ++ w)) ≡ w
last_part u v w a b e f = ap (λ k. drop (k + b) (u ++ (v ++ w))) (sym e) ∙ (drop-append-add u (v ++ w) b ∙ (ap (λ k. drop k (v ++ w)) (sym f) ∙ drop-append_seam v w))

pub middle_part : (u v w : List Page) (a b : ℕ) → length u ≡ a → length v ≡ b → take b (drop a (u ++ (v ++ w))) ≡ v
middle_part u v w a b e f = ap (λ k. take b (drop k (u ++ (v ++ w)))) (sym e) ∙ (ap (take b) (drop-append_seam u (v ++ w)) ∙ (ap (λ k. take k (v ++ w)) (sym f) ∙ take-append_seam v w))

-- the pages of three parts of an array
three_parts : (g : Geometry) (a b m : ℕ) (xs : List ℕ) → length xs ≡ (a + (b + m)) * page_bytes g
    → pages_of g (a + (b + m)) xs
    ≡ pages_of g a (take (a * page_bytes g) xs) ++ (pages_of g b (take (b * page_bytes g) (drop (a * page_bytes g) xs)) ++ pages_of g m (drop (b * page_bytes g) (drop (a * page_bytes g) xs)))
three_parts g a b m xs lx =
    let z : ℕ = page_bytes g in
    let u : List ℕ = take (a * z) xs in
    let t : List ℕ = drop (a * z) xs in
    let v : List ℕ = take (b * z) t in
    let total : (a + (b + m)) * z ≡ a * z + (b * z + m * z) = omega arith in
    let lu : length u ≡ a * z = length-take-le (a * z) xs (omega (arith, lx, total)) in
    let lt : length t ≡ b * z + m * z = omega (arith, lx, total, length-drop (a * z) xs) in
    let lv : length v ≡ b * z = length-take-le (b * z) t (omega (arith, lt)) in
    ap (pages_of g (a + (b + m))) (sym (take-append-drop (a * z) xs)) ∙ (pages_append g a (b + m) u t lu
    ∙ ap (λ ps. pages_of g a u ++ ps) (ap (pages_of g (b + m)) (sym (take-append-drop (b * z) t)) ∙ pages_append g b m v (drop (b * z) t) lv))

-- other bytes in the place of some pages
put_pages : (g : Geometry) (a b m : ℕ) (xs ys : List ℕ) → length xs ≡ (a + (b + m)) * page_bytes g → length ys ≡ b * page_bytes g
    → pages_of g (a + (b + m)) (put (a * page_bytes g) (b * page_bytes g) xs ys)
    ≡ take a (pages_of g (a + (b + m)) xs) ++ (pages_of g b ys ++ drop (a + b) (pages_of g (a + (b + m)) xs))
put_pages g a b m xs ys lx ly =
    let z : ℕ = page_bytes g in
    let n : ℕ = a + (b + m) in
    let u : List ℕ = take (a * z) xs in
    let v : List ℕ = take (b * z) (drop (a * z) xs) in
    let w : List ℕ = drop (b * z) (drop (a * z) xs) in
    let total : n * z ≡ a * z + (b * z + m * z) = omega arith in
    let lu : length u ≡ a * z = length-take-le (a * z) xs (omega (arith, lx, total)) in
    let parts : pages_of g n xs ≡ pages_of g a u ++ (pages_of g b v ++ pages_of g m w) = three_parts g a b m xs lx in
    let front : take a (pages_of g n xs) ≡ pages_of g a u = ap (take a) parts ∙ first_part _ (pages_of g b v) (pages_of g m w) a (length-pages_of g a u) in
    let back : drop (a + b) (pages_of g n xs) ≡ pages_of g m w = ap (drop (a + b)) parts ∙ last_part _ (pages_of g b v) (pages_of g m w) a b (length-pages_of g a u) (length-pages_of g b v) in
    pages_append g a (b + m) u (ys ++ w) lu ∙ (ap (λ ps. pages_of g a u ++ ps) (pages_append g b m ys w ly)
    ∙ (ap (λ ps. ps ++ (pages_of g b ys ++ pages_of g m w)) (sym front) ∙ ap (λ ps. take a (pages_of g n xs) ++ (pages_of g b ys ++ ps)) (sym back)))

-- a block was filled with FFh
pub block_erased : (g : Geometry) (block start size : ℕ) (xs ys : List ℕ) → block * g.pages + g.pages ≤ row_count g → start ≡ block * g.pages * page_bytes g → size ≡ g.pages * page_bytes g
    → ys ≡ replicate size 255 → length xs ≡ row_count g * page_bytes g
    → raw_image g (take start xs ++ (ys ++ drop size (drop start xs))) ≡ with_block g.pages block (replicate g.pages (erased_page g)) (raw_image g xs)
block_erased g block start size xs ys le is_start is_size is_ys lx =
    let z : ℕ = page_bytes g in
    let n : ℕ = row_count g in
    let a : ℕ = block * g.pages in
    let b : ℕ = g.pages in
    let m : ℕ = n - (a + b) in
    let k : n ≡ a + (b + m) = omega (arith, le) in
    let fs : ys ≡ replicate (b * z) 255 = is_ys ∙ ap (λ j. replicate j 255) is_size in
    let ly : length (replicate (b * z) 255) ≡ b * z = length-replicate (b * z) 255 in
    raw_image_is g (put start size xs ys)
    ∙ (ap (λ j. pages_of g n (put j size xs ys)) is_start
    ∙ (ap (λ j. pages_of g n (put (a * z) j xs ys)) is_size
    ∙ (ap (λ us. pages_of g n (put (a * z) (b * z) xs us)) fs
    ∙ (ap (λ j. pages_of g j (put (a * z) (b * z) xs (replicate (b * z) 255))) k
    ∙ (put_pages g a b m xs (replicate (b * z) 255) (lx ∙ ap (λ j. j * z) k) ly
    ∙ (ap (λ ps. take a (pages_of g (a + (b + m)) xs) ++ (ps ++ drop (a + b) (pages_of g (a + (b + m)) xs))) (pages_of_blank g b)
    ∙ (ap (λ j. with_block b block (replicate b (erased_page g)) (pages_of g j xs)) (sym k)
    ∙ ap (with_block b block (replicate b (erased_page g))) (sym (raw_image_is g xs)))))))))

-- the pages of a block
pub block_read : (g : Geometry) (block start size : ℕ) (xs : List ℕ) → block * g.pages + g.pages ≤ row_count g → start ≡ block * g.pages * page_bytes g → size ≡ g.pages * page_bytes g → length xs ≡ row_count g * page_bytes g
    → take g.pages (drop (block * g.pages) (raw_image g xs)) ≡ pages_of g g.pages (take size (drop start xs))
block_read g block start size xs le is_start is_size lx =
    let z : ℕ = page_bytes g in
    let a : ℕ = block * g.pages in
    let b : ℕ = g.pages in
    let m : ℕ = row_count g - (a + b) in
    let k : row_count g ≡ a + (b + m) = omega (arith, le) in
    let t : List ℕ = drop (a * z) xs in
    ap (λ ps. take b (drop a ps)) (raw_image_is g xs ∙ (ap (λ j. pages_of g j xs) k ∙ three_parts g a b m xs (lx ∙ ap (λ j. j * z) k)))
    ∙ (middle_part (pages_of g a (take (a * z) xs)) (pages_of g b (take (b * z) t)) (pages_of g m (drop (b * z) t)) a b (length-pages_of g a (take (a * z) xs)) (length-pages_of g b (take (b * z) t))
    ∙ (ap (λ j. pages_of g b (take j t)) (sym is_size) ∙ ap (λ j. pages_of g b (take size (drop j xs))) (sym is_start)))

-- a block lies in the array
pub block_within : (g : Geometry) (block : ℕ) → block < g.blocks → block * g.pages + g.pages ≤ row_count g
block_within g block lt = subst (λ k. k ≤ g.blocks * g.pages) (omega arith) (mul-le-mul_right {m = suc block} {n = g.blocks} g.pages (omega (arith, lt)))

pub block_ends : (g : Geometry) (block pages size n : ℕ) → pages ≡ g.pages → size ≡ page_bytes g → n ≡ row_count g * page_bytes g → block < g.blocks → block * (pages * size) + pages * size ≤ n
block_ends g block pages size n e f is_n lt =
    let h : (block * g.pages + g.pages) * page_bytes g ≤ row_count g * page_bytes g = mul-le-mul_right (page_bytes g) (block_within g block lt) in
    let k : block * (g.pages * page_bytes g) + g.pages * page_bytes g ≡ (block * g.pages + g.pages) * page_bytes g = omega arith in
    subst (λ p. block * (p * size) + p * size ≤ n) (sym e) (subst (λ z. block * (g.pages * z) + g.pages * z ≤ n) (sym f) (subst (λ l. block * (g.pages * page_bytes g) + g.pages * page_bytes g ≤ l) (sym is_n) (subst (λ l. l ≤ row_count g * page_bytes g) (sym k) h)))

pub part_length : (a k : ℕ) (xs : List ℕ) → a + k ≤ length xs → length (take k (drop a xs)) ≡ k
part_length a k xs le = length-take-le k (drop a xs) (omega (arith, le, length-drop a xs))
