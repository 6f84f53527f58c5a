-- Pieces of one size, one behind another.
use Rattle.std.proofs.Common.{◌≡◌, ℕ, ◌+◌, ◌*◌, ◌-◌, ◌<◌, ◌≤◌, zero, suc, List, ◌++◌, length, map, take, drop, ap, ◌∙◌, arith}
use Rattle.std.proofs.Common.{length-append}
use Rattle.std.specs.List.{concat, range_with_len}
use Rattle.std.proofs.Math.Seq.{drop-append-add}
use Rattle.std.proofs.lemmas.List.{take_at}

pieces_from : (f : ℕ → List ℕ) (n a k m : ℕ) → ((r : ℕ) → r < a + m → length (f r) ≡ n) → k ≤ m → drop (k * n) (concat (map f (range_with_len a m))) ≡ concat (map f (range_with_len (a + k) (m - k)))
pieces_from f n a zero m sized l =
    let here : a ≡ a + 0 = omega arith in
    let all : m ≡ m - 0 = omega arith in
    let none : 0 * n ≡ 0 = omega arith in
    ap (λ i. drop i (concat (map f (range_with_len a m)))) none ∙ (ap (λ i. concat (map f (range_with_len i m))) here ∙ ap (λ i. concat (map f (range_with_len (a + 0) i))) all)
pieces_from f n a (suc k) zero sized l = absurd (omega arith)
pieces_from f n a (suc k) (suc m) sized l =
    let size = sized a (omega arith) in
    let past : suc k * n ≡ length (f a) + k * n = omega arith in
    let next : a + 1 + k ≡ a + suc k = omega arith in
    let less : m - k ≡ suc m - suc k = omega arith in
    ap (λ i. drop i (f a ++ concat (map f (range_with_len (a + 1) m)))) past
    ∙ (drop-append-add (f a) (concat (map f (range_with_len (a + 1) m))) (k * n)
    ∙ (pieces_from f n (a + 1) k m (λ r i. sized r (omega arith)) (omega arith)
    ∙ (ap (λ i. concat (map f (range_with_len i (m - k)))) next ∙ ap (λ i. concat (map f (range_with_len (a + suc k) i))) less)))

-- a piece, and what follows it
pub piece_of : (f : ℕ → List ℕ) (n rows row : ℕ) → ((r : ℕ) → r < rows → length (f r) ≡ n) → row < rows → take n (drop (row * n) (concat (map f (range_with_len 0 rows)))) ≡ f row
piece_of f n rows row sized l =
    let size = sized row l in
    let some : rows - row ≡ suc (rows - row - 1) = omega arith in
    let at : 0 + row ≡ row = omega arith in
    ap (take n) (pieces_from f n 0 row rows (λ r i. sized r (omega arith)) (omega arith) ∙ (ap (λ i. concat (map f (range_with_len i (rows - row)))) at ∙ ap (λ i. concat (map f (range_with_len row i))) some))
    ∙ take_at (f row) (concat (map f (range_with_len (row + 1) (rows - row - 1)))) n size

pub pieces_size : (f : ℕ → List ℕ) (n a m : ℕ) → ((r : ℕ) → r < a + m → length (f r) ≡ n) → length (concat (map f (range_with_len a m))) ≡ m * n
pieces_size f n a zero sized = omega arith
pieces_size f n a (suc m) sized =
    let rest = pieces_size f n (a + 1) m (λ r i. sized r (omega arith)) in
    omega (arith, length-append (f a) (concat (map f (range_with_len (a + 1) m))), sized a (omega arith))
