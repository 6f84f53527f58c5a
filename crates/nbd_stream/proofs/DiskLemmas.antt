-- What a task leaves, byte by byte.
use Rattle.std.proofs.Common.{◌≡◌, ◌<◌, ◌≤◌, ◌+◌, ◌-◌, ◌&&◌, nat_lt, nat_le, ℕ, Bool, true, false, List, ◌++◌, length, take, drop, replicate, Some, None, refl, ap, ◌∙◌, arith, rules, length-append, length-drop}
use Rattle.std.specs.Prelude.{slice_index, unwrap_or, if◌then◌else◌}
use Rattle.std.proofs.lemmas.List.{drop_at, take_at, length-take-le, length-replicate, get_or-take, get_or-drop, get_or-replicate, get_or_append_left, get_or-append_right}
use Rattle.nbd_stream.specs.declared.task.Task.TheVariants.{Read, Write, Flush, Trim, WriteZeroes}
use Rattle.nbd_stream.specs.Disk.{bytes_given, is_in, with_bytes}
use Rattle.nbd_stream.specs.Runs.{ByteLaw, ReadAfterChangeLaw}
use Rattle.nbd_stream.proofs.TaskLemmas.{below, at_most, not_below}

not_at_most : (m n : ℕ) → nat_le m n ≡ false → n < m
not_at_most m n e = search rules

pub length-with_bytes : (o : ℕ) (body bytes : List ℕ) → o + length body ≤ length bytes → length (with_bytes o body bytes) ≡ length bytes
length-with_bytes o body bytes fits =
    omega (arith, length-append (take o bytes) (body ++ drop (o + length body) bytes), length-append body (drop (o + length body) bytes), length-take-le o bytes (omega arith), length-drop (o + length body) bytes)

-- before the range, in it and past it
pub before_it : (o : ℕ) (body bytes : List ℕ) (p : ℕ) → o + length body ≤ length bytes → p < o → slice_index (with_bytes o body bytes) p ≡ slice_index bytes p
before_it o body bytes p fits less =
    let long : length (take o bytes) ≡ o = length-take-le o bytes (omega arith) in
    get_or_append_left (take o bytes) (body ++ drop (o + length body) bytes) 0 p (omega arith) ∙ get_or-take o bytes p 0 less

pub inside_it : (o : ℕ) (body bytes : List ℕ) (p : ℕ) → o + length body ≤ length bytes → o ≤ p → p < o + length body → slice_index (with_bytes o body bytes) p ≡ slice_index body (p - o)
inside_it o body bytes p fits from to =
    get_or-append_right (take o bytes) (body ++ drop (o + length body) bytes) o p 0 (length-take-le o bytes (omega arith)) from
    ∙ get_or_append_left body (drop (o + length body) bytes) 0 (p - o) (omega arith)

pub past_it : (o : ℕ) (body bytes : List ℕ) (p : ℕ) → o + length body ≤ length bytes → o + length body ≤ p → slice_index (with_bytes o body bytes) p ≡ slice_index bytes p
past_it o body bytes p fits from =
    let place : (o + length body) + ((p - o) - length body) ≡ p = omega arith in
    get_or-append_right (take o bytes) (body ++ drop (o + length body) bytes) o p 0 (length-take-le o bytes (omega arith)) (omega arith)
    ∙ get_or-append_right body (drop (o + length body) bytes) (length body) (p - o) 0 refl (omega arith)
    ∙ get_or-drop (o + length body) bytes ((p - o) - length body) 0
    ∙ ap (λ (k : ℕ). slice_index bytes k) place

by_range : (a b : Bool) (value was now : ℕ) → (a ≡ false → now ≡ was) → (b ≡ false → now ≡ was) → (a ≡ true → b ≡ true → now ≡ value) → now ≡ unwrap_or (if a && b then Some value else None) was
by_range true true value was now before past inside = inside refl refl
by_range true false value was now before past inside = past refl
by_range false b value was now before past inside = before refl

pub byte-with_bytes : (o : ℕ) (body bytes : List ℕ) (p value : ℕ) → o + length body ≤ length bytes → (o ≤ p → p < o + length body → slice_index body (p - o) ≡ value)
    → slice_index (with_bytes o body bytes) p ≡ unwrap_or (if is_in o (length body) p then Some value else None) (slice_index bytes p)
byte-with_bytes o body bytes p value fits is =
    by_range (nat_le o p) (nat_lt p (o + length body)) value (slice_index bytes p) (slice_index (with_bytes o body bytes) p)
    (λ less. before_it o body bytes p fits (not_at_most o p less))
    (λ past. past_it o body bytes p fits (not_below p (o + length body) past))
    (λ from to. inside_it o body bytes p fits (at_most o p from) (below p (o + length body) to) ∙ is (at_most o p from) (below p (o + length body) to))

-- so many zeros
zeros_long : (o n : ℕ) (bytes : List ℕ) → o + n ≤ length bytes → length (with_bytes o (replicate n 0) bytes) ≡ length bytes
zeros_long o n bytes fits = length-with_bytes o (replicate n 0) bytes (omega (arith, length-replicate {A = ℕ} n 0))

zeros_byte : (o n : ℕ) (bytes : List ℕ) (p : ℕ) → o + n ≤ length bytes → slice_index (with_bytes o (replicate n 0) bytes) p ≡ unwrap_or (if is_in o n p then Some 0 else None) (slice_index bytes p)
zeros_byte o n bytes p fits =
    let long : length (replicate {A = ℕ} n 0) ≡ n = length-replicate {A = ℕ} n 0 in
    byte-with_bytes o (replicate n 0) bytes p 0 (omega arith) (λ from to. get_or-replicate n (p - o) 0 0 (omega arith))
    ∙ ap (λ (k : ℕ). unwrap_or (if is_in o k p then Some 0 else None) (slice_index bytes p)) long

pub byte_law : ByteLaw
byte_law (Read o n) body bytes fits size = (refl, λ p. refl)
byte_law (Write o n d) body bytes fits size =
    let fits' : o + length body ≤ length bytes = omega arith in
    (length-with_bytes o body bytes fits', λ p. byte-with_bytes o body bytes p (slice_index body (p - o)) fits' (λ from to. refl))
byte_law Flush body bytes fits size = (refl, λ p. refl)
byte_law (Trim o n d) body bytes fits size = (zeros_long o n bytes fits, λ p. zeros_byte o n bytes p fits)
byte_law (WriteZeroes o n d) body bytes fits size = (zeros_long o n bytes fits, λ p. zeros_byte o n bytes p fits)

-- ---- what was set, read again

read_again : (o n : ℕ) (d : Bool) (body bytes : List ℕ) → o + n ≤ length bytes → length body ≡ n → bytes_given (Read o n) (with_bytes o body bytes) ≡ body
read_again o n d body bytes fits long =
    let k : ℕ = (o + n) - o in
    ap (take k) (drop_at (take o bytes) (body ++ drop (o + length body) bytes) o (length-take-le o bytes (omega arith)))
    ∙ take_at body (drop (o + length body) bytes) k (omega arith)

pub read_back_law : ReadAfterChangeLaw
read_back_law o n d body bytes fits long =
    let zeros = read_again o n d (replicate {A = ℕ} n 0) bytes fits (length-replicate {A = ℕ} n 0) in
    (read_again o n d body bytes fits long, zeros, zeros)
