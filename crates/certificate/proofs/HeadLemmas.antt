-- The forty bytes before the blocks, both ways.
use Rattle.std.proofs.Common.{◌≡◌, ℕ, zero, suc, ◌+◌, ◌<◌, ◌≤◌, length, get_or, take, drop, List, [], ◌∷◌, ◌++◌, refl, sym, ap, ◌∙◌, append_assoc, arith}
use Rattle.std.specs.List.{flat_map}
use Rattle.std.specs.Int.{w32, w64, to_le_bytes}
use Rattle.std.proofs.lemmas.List.{take-append-drop, drop-drop, drop_more}
use Rattle.std.proofs.lemmas.Nat.{le_bytes_4, le_bytes_8, from_le_bytes-to_le_bytes_4, from_le_bytes-to_le_bytes_8}
use Rattle.page_layout.specs.Word.{word_at}
use Rattle.certificate.specs.Claim.{Sizes, Claim}
use Rattle.certificate.specs.Spelling.{magic, word, row, block, head, certificate_bytes, Fits}
use Rattle.certificate.specs.Reading.{sizes_in, capacity_in, next_sequence_in}
use Rattle.certificate.specs.Faults.{HasMagic}
use Rattle.certificate.proofs.RowLemmas.{IsBytes}

-- ---- reading what is spelled

same_sizes : (s : Sizes) (d p a b l : ℕ) → d ≡ s.data_bytes → p ≡ s.spare_bytes → a ≡ s.pages → b ≡ s.blocks → l ≡ s.sectors → (let made : Sizes = record { data_bytes = d; spare_bytes = p; pages = a; blocks = b; sectors = l } in made ≡ s)
same_sizes s d p a b l e f g h i = rw (e, f, g, h, i) refl

pub sizes_again : (c : Claim) (rest : List ℕ) → Fits c → sizes_in (certificate_bytes c ++ rest) ≡ c.sizes
unfolding certificate_bytes word
sizes_again c rest fits =
    same_sizes c.sizes _ _ _ _ _
    (from_le_bytes-to_le_bytes_4 c.sizes.data_bytes (omega (arith, fits.limits.data_size.most)))
    (from_le_bytes-to_le_bytes_4 c.sizes.spare_bytes (omega (arith, fits.limits.spare_size.most)))
    (from_le_bytes-to_le_bytes_4 c.sizes.pages (omega (arith, fits.limits.page_count.most)))
    (from_le_bytes-to_le_bytes_4 c.sizes.blocks (omega (arith, fits.limits.block_count.most)))
    (from_le_bytes-to_le_bytes_4 c.sizes.sectors (omega (arith, fits.limits.sector_count.most)))

pub capacity_again : (c : Claim) (rest : List ℕ) → Fits c → capacity_in (certificate_bytes c ++ rest) ≡ c.capacity
unfolding certificate_bytes word
capacity_again c rest fits = from_le_bytes-to_le_bytes_4 c.capacity (omega (arith, fits.capacity_most))

pub next_again : (c : Claim) (rest : List ℕ) → Fits c → next_sequence_in (certificate_bytes c ++ rest) ≡ c.next
unfolding certificate_bytes word
next_again c rest fits = from_le_bytes-to_le_bytes_8 c.next fits.next

pub magic_again : (c : Claim) → HasMagic (certificate_bytes c)
unfolding certificate_bytes word
magic_again c = refl

pub body_again : (c : Claim) (rest : List ℕ) → drop 40 (certificate_bytes c ++ rest) ≡ flat_map block c.blocks ++ (flat_map row c.directory ++ (flat_map row c.sectors ++ rest))
unfolding certificate_bytes word
body_again c rest = simp append_assoc

pub length-certificate_bytes : (c : Claim) → length (certificate_bytes c) ≡ 40 + length (flat_map block c.blocks ++ flat_map row c.directory ++ flat_map row c.sectors)
unfolding certificate_bytes word
length-certificate_bytes c = omega arith

-- ---- spelling what is read

-- the first bytes from a place on
pub first_part : (bytes : List ℕ) (i n : ℕ) → drop i bytes ≡ take n (drop i bytes) ++ drop (i + n) bytes
first_part bytes i n = sym (take-append-drop n (drop i bytes)) ∙ ap (λ (xs : List ℕ). take n (drop i bytes) ++ xs) (drop-drop n i bytes)

IsBytes-four : (bytes : List ℕ) (i : ℕ) → IsBytes bytes → IsBytes (get_or bytes i 0 ∷ get_or bytes (i + 1) 0 ∷ get_or bytes (i + 2) 0 ∷ get_or bytes (i + 3) 0 ∷ [])
IsBytes-four bytes i h zero = h i
IsBytes-four bytes i h (suc zero) = h (i + 1)
IsBytes-four bytes i h (suc (suc zero)) = h (i + 2)
IsBytes-four bytes i h (suc (suc (suc zero))) = h (i + 3)
IsBytes-four bytes i h (suc (suc (suc (suc k)))) = omega arith

one_more : (bytes : List ℕ) (i j : ℕ) → j ≡ i + 1 → i < length bytes → drop i bytes ≡ get_or bytes i 0 ∷ drop j bytes
one_more bytes i j e long = rw e (drop_more bytes i 0 long)

four_more : (bytes : List ℕ) (i : ℕ) → i + 4 ≤ length bytes → drop i bytes ≡ get_or bytes i 0 ∷ get_or bytes (i + 1) 0 ∷ get_or bytes (i + 2) 0 ∷ get_or bytes (i + 3) 0 ∷ drop (i + 4) bytes
four_more bytes i long =
    one_more bytes i (i + 1) refl (omega arith)
    ∙ ap (λ (xs : List ℕ). get_or bytes i 0 ∷ xs) (one_more bytes (i + 1) (i + 2) (omega arith) (omega arith)
    ∙ ap (λ (xs : List ℕ). get_or bytes (i + 1) 0 ∷ xs) (one_more bytes (i + 2) (i + 3) (omega arith) (omega arith)
    ∙ ap (λ (xs : List ℕ). get_or bytes (i + 2) 0 ∷ xs) (one_more bytes (i + 3) (i + 4) (omega arith) (omega arith))))

pub word_part : (bytes : List ℕ) (i : ℕ) → i + 4 ≤ length bytes → IsBytes bytes → drop i bytes ≡ word (word_at bytes i) ++ drop (i + 4) bytes
unfolding word
word_part bytes i long h =
    let four = get_or bytes i 0 ∷ get_or bytes (i + 1) 0 ∷ get_or bytes (i + 2) 0 ∷ get_or bytes (i + 3) 0 ∷ [] in
    let spelled : to_le_bytes w32 (word_at bytes i) ≡ four = le_bytes_4 four _ refl (IsBytes-four bytes i h) refl in
    four_more bytes i long ∙ ap (λ (xs : List ℕ). xs ++ drop (i + 4) bytes) (sym spelled)

IsBytes-eight : (bytes : List ℕ) → IsBytes bytes → IsBytes (get_or bytes 32 0 ∷ get_or bytes 33 0 ∷ get_or bytes 34 0 ∷ get_or bytes 35 0 ∷ get_or bytes 36 0 ∷ get_or bytes 37 0 ∷ get_or bytes 38 0 ∷ get_or bytes 39 0 ∷ [])
IsBytes-eight bytes h zero = h 32
IsBytes-eight bytes h (suc zero) = h 33
IsBytes-eight bytes h (suc (suc zero)) = h 34
IsBytes-eight bytes h (suc (suc (suc zero))) = h 35
IsBytes-eight bytes h (suc (suc (suc (suc zero)))) = h 36
IsBytes-eight bytes h (suc (suc (suc (suc (suc zero))))) = h 37
IsBytes-eight bytes h (suc (suc (suc (suc (suc (suc zero)))))) = h 38
IsBytes-eight bytes h (suc (suc (suc (suc (suc (suc (suc zero))))))) = h 39
IsBytes-eight bytes h (suc (suc (suc (suc (suc (suc (suc (suc k)))))))) = omega arith

next_part : (bytes : List ℕ) → 40 ≤ length bytes → IsBytes bytes → drop 32 bytes ≡ to_le_bytes w64 (next_sequence_in bytes) ++ drop 40 bytes
next_part bytes long h =
    let eight = get_or bytes 32 0 ∷ get_or bytes 33 0 ∷ get_or bytes 34 0 ∷ get_or bytes 35 0 ∷ get_or bytes 36 0 ∷ get_or bytes 37 0 ∷ get_or bytes 38 0 ∷ get_or bytes 39 0 ∷ [] in
    let spelled : to_le_bytes w64 (next_sequence_in bytes) ≡ eight = le_bytes_8 eight _ refl (IsBytes-eight bytes h) refl in
    four_more bytes 32 (omega arith)
    ∙ ap (λ (xs : List ℕ). get_or bytes 32 0 ∷ get_or bytes 33 0 ∷ get_or bytes 34 0 ∷ get_or bytes 35 0 ∷ xs) (four_more bytes 36 (omega arith))
    ∙ ap (λ (xs : List ℕ). xs ++ drop 40 bytes) (sym spelled)

-- the head of a claim whose numbers are those of the bytes
pub head_part : (c : Claim) (bytes : List ℕ) → HasMagic bytes → 40 ≤ length bytes → IsBytes bytes → c.sizes ≡ sizes_in bytes → c.capacity ≡ capacity_in bytes → c.next ≡ next_sequence_in bytes → bytes ≡ head c ++ drop 40 bytes
unfolding word
head_part c bytes begins long h sizes_are capacity_is next_is =
    let chain : bytes ≡ magic ++ (word (word_at bytes 8) ++ (word (word_at bytes 12) ++ (word (word_at bytes 16) ++ (word (word_at bytes 20) ++ (word (word_at bytes 24) ++ (word (word_at bytes 28) ++ (to_le_bytes w64 (next_sequence_in bytes) ++ drop 40 bytes))))))) =
    first_part bytes 0 8
    ∙ ap (λ (xs : List ℕ). xs ++ drop 8 bytes) begins
    ∙ ap (λ (xs : List ℕ). magic ++ xs) (word_part bytes 8 (omega arith) h
    ∙ ap (λ (xs : List ℕ). word (word_at bytes 8) ++ xs) (word_part bytes 12 (omega arith) h
    ∙ ap (λ (xs : List ℕ). word (word_at bytes 12) ++ xs) (word_part bytes 16 (omega arith) h
    ∙ ap (λ (xs : List ℕ). word (word_at bytes 16) ++ xs) (word_part bytes 20 (omega arith) h
    ∙ ap (λ (xs : List ℕ). word (word_at bytes 20) ++ xs) (word_part bytes 24 (omega arith) h
    ∙ ap (λ (xs : List ℕ). word (word_at bytes 24) ++ xs) (word_part bytes 28 (omega arith) h
    ∙ ap (λ (xs : List ℕ). word (word_at bytes 28) ++ xs) (next_part bytes long h)))))))
    in
    chain ∙ rw (sizes_are, capacity_is, next_is) refl
