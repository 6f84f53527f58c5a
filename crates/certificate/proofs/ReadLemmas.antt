-- What bytes say is what they spell: what is spelled is read again, and whole bytes spell what is read.
use Rattle.std.proofs.Common.{◌≡◌, ℕ, ◌+◌, ◌*◌, ◌≤◌, length, take, drop, List, ◌++◌, map, Option, refl, sym, ap, ◌∙◌, append_assoc, arith, inl, inr}
use Rattle.std.specs.List.{flat_map}
use Rattle.std.proofs.lemmas.Bool.{cases_lt}
use Rattle.std.proofs.lemmas.List.{take_at, drop_at, drop-drop, take_all, length-take, length-drop, get_or-drop, get_or-take, get_or_past}
use Rattle.std.proofs.Math.Nat.{mul-le-mul}
use Rattle.page_layout.specs.Word.{no_row, row_of_word}
use Rattle.certificate.specs.declared.block_state.BlockState.{BlockState}
use Rattle.certificate.specs.Claim.{Sizes, Claim}
use Rattle.certificate.specs.Spelling.{row, block, head, certificate_bytes, rows_of, directory_rows, directory_at, sectors_at, Fits}
use Rattle.certificate.specs.Reading.{sizes_in, capacity_in, next_sequence_in, blocks_in, directory_in, sectors_in, claim_at, claim_in}
use Rattle.certificate.specs.Faults.{HasPromisedBytes}
use Rattle.certificate.proofs.RowLemmas.{IsBytes, rows_spelled, words_spell, rows_again, length-flat_map-row}
use Rattle.certificate.proofs.BlockLemmas.{blocks_again, blocks_spell, length-flat_map-block}
use Rattle.certificate.proofs.HeadLemmas.{sizes_again, capacity_again, next_again, body_again, first_part, head_part}

-- ---- what is spelled is read again

same_claim : (c : Claim) (a n : ℕ) (blocks : List BlockState) (directory sectors : List (Option ℕ)) → a ≡ c.capacity → n ≡ c.next → blocks ≡ c.blocks → directory ≡ c.directory → sectors ≡ c.sectors
    → (let made : Claim = record { sizes = c.sizes; capacity = a; next = n; blocks = blocks; directory = directory; sectors = sectors } in made ≡ c)
same_claim c a n blocks directory sectors e f g h i = rw (e, f, g, h, i) refl

pub few_rows : (c : Claim) → Fits c → rows_of c.sizes ≤ no_row
few_rows c fits =
    let most : c.sizes.blocks * c.sizes.pages ≤ 4096 * 256 = mul-le-mul fits.limits.block_count.most fits.limits.page_count.most in
    omega (arith, most)

pub claim_again : (c : Claim) (rest : List ℕ) → Fits c → claim_in (certificate_bytes c ++ rest) ≡ c
unfolding claim_at
claim_again c rest fits =
    let bytes = certificate_bytes c ++ rest in
    let s = c.sizes in
    let spelled_blocks = flat_map block c.blocks in
    let spelled_directory = flat_map row c.directory in
    let spelled_sectors = flat_map row c.sectors in
    let blocks_long : length spelled_blocks ≡ 9 * s.blocks = length-flat_map-block c.blocks ∙ ap (λ (n : ℕ). 9 * n) fits.blocks_length in
    let directory_long : length spelled_directory ≡ 4 * directory_rows s = length-flat_map-row c.directory ∙ ap (λ (n : ℕ). 4 * n) fits.directory_length in
    let sectors_long : length spelled_sectors ≡ 4 * s.sectors = length-flat_map-row c.sectors ∙ ap (λ (n : ℕ). 4 * n) fits.sectors_length in
    let from_blocks = body_again c rest in
    let from_directory : drop (directory_at s) bytes ≡ spelled_directory ++ (spelled_sectors ++ rest) =
    sym (drop-drop (9 * s.blocks) 40 bytes) ∙ (ap (drop (9 * s.blocks)) from_blocks ∙ drop_at spelled_blocks (spelled_directory ++ (spelled_sectors ++ rest)) (9 * s.blocks) blocks_long) in
    let from_sectors : drop (sectors_at s) bytes ≡ spelled_sectors ++ rest =
    sym (drop-drop (4 * directory_rows s) (directory_at s) bytes) ∙ (ap (drop (4 * directory_rows s)) from_directory ∙ drop_at spelled_directory (spelled_sectors ++ rest) (4 * directory_rows s) directory_long) in
    let blocks_bytes : take (9 * s.blocks) (drop 40 bytes) ≡ spelled_blocks = ap (take (9 * s.blocks)) from_blocks ∙ take_at spelled_blocks (spelled_directory ++ (spelled_sectors ++ rest)) (9 * s.blocks) blocks_long in
    let directory_bytes : take (4 * directory_rows s) (drop (directory_at s) bytes) ≡ spelled_directory = ap (take (4 * directory_rows s)) from_directory ∙ take_at spelled_directory (spelled_sectors ++ rest) (4 * directory_rows s) directory_long in
    let sectors_bytes : take (4 * s.sectors) (drop (sectors_at s) bytes) ≡ spelled_sectors = ap (take (4 * s.sectors)) from_sectors ∙ take_at spelled_sectors rest (4 * s.sectors) sectors_long in
    let few = few_rows c fits in
    ap (λ (t : Sizes). claim_at t bytes) (sizes_again c rest fits)
    ∙ same_claim c (capacity_in bytes) (next_sequence_in bytes) (blocks_in s bytes) (map row_of_word (directory_in s bytes)) (map row_of_word (sectors_in s bytes))
    (capacity_again c rest fits)
    (next_again c rest fits)
    (rw blocks_bytes (blocks_again c.blocks fits.blocks))
    (rw directory_bytes (rows_again (rows_of s) c.directory few fits.directory))
    (rw sectors_bytes (rows_again (rows_of s) c.sectors few fits.sectors))

-- ---- whole bytes spell what is read

IsBytes-drop : (n : ℕ) (bytes : List ℕ) → IsBytes bytes → IsBytes (drop n bytes)
IsBytes-drop n bytes h i = rw get_or-drop (h (n + i))

IsBytes-take : (n : ℕ) (bytes : List ℕ) → IsBytes bytes → IsBytes (take n bytes)
IsBytes-take n bytes h i =
    elim (cases_lt i n) [
      | inl lt ↦ rw (get_or-take n bytes i 0 lt) (h i)
      | inr le ↦ rw (get_or_past (take n bytes) i 0 (omega (arith, length-take n bytes))) (omega arith)
    ]

pub IsBytes-part : (i n : ℕ) (bytes : List ℕ) → IsBytes bytes → IsBytes (take n (drop i bytes))
IsBytes-part i n bytes h = IsBytes-take n (drop i bytes) (IsBytes-drop i bytes h)

pub length-part : (i n : ℕ) (bytes : List ℕ) → i + n ≤ length bytes → length (take n (drop i bytes)) ≡ n
length-part i n bytes long = omega (arith, length-take n (drop i bytes), length-drop i bytes)

pub spelled_again : (bytes : List ℕ) → IsBytes bytes → HasPromisedBytes bytes → certificate_bytes (claim_in bytes) ≡ bytes
unfolding certificate_bytes claim_at
spelled_again bytes h whole =
    let s = sizes_in bytes in
    let c = claim_in bytes in
    let long = whole.length_is in
    let blocks_bytes = take (9 * s.blocks) (drop 40 bytes) in
    let directory_bytes = take (4 * directory_rows s) (drop (directory_at s) bytes) in
    let sectors_bytes = take (4 * s.sectors) (drop (sectors_at s) bytes) in
    let blocks_are : flat_map block (blocks_in s bytes) ≡ blocks_bytes = blocks_spell s.blocks blocks_bytes (length-part 40 (9 * s.blocks) bytes (omega arith)) (IsBytes-part 40 (9 * s.blocks) bytes h) in
    let directory_is : flat_map row (map row_of_word (directory_in s bytes)) ≡ directory_bytes = rows_spelled (directory_in s bytes) ∙ words_spell
    (directory_rows s) directory_bytes (length-part (directory_at s) (4 * directory_rows s) bytes (omega arith))
    (IsBytes-part (directory_at s) (4 * directory_rows s) bytes h) in
    let sectors_are : flat_map row (map row_of_word (sectors_in s bytes)) ≡ sectors_bytes = rows_spelled (sectors_in s bytes) ∙ words_spell s.sectors
    sectors_bytes (length-part (sectors_at s) (4 * s.sectors) bytes (omega arith)) (IsBytes-part (sectors_at s) (4 * s.sectors) bytes h) in
    let ends : sectors_bytes ≡ drop (sectors_at s) bytes = take_all (4 * s.sectors) (drop (sectors_at s) bytes) (omega (arith, length-drop (sectors_at s) bytes)) in
    let body : drop 40 bytes ≡ blocks_bytes ++ (directory_bytes ++ sectors_bytes) =
    first_part bytes 40 (9 * s.blocks) ∙ ap (λ (xs : List ℕ). blocks_bytes ++ xs) (first_part bytes (directory_at s) (4 * directory_rows s) ∙ ap (λ (xs : List ℕ). directory_bytes ++ xs) (sym ends)) in
    let grouped : certificate_bytes c ≡ head c ++ (flat_map block (blocks_in s bytes) ++ (flat_map row (map row_of_word (directory_in s bytes)) ++ flat_map row (map row_of_word (sectors_in s bytes)))) = simp append_assoc in
    let pieces : flat_map block (blocks_in s bytes) ++ (flat_map row (map row_of_word (directory_in s bytes)) ++ flat_map row (map row_of_word (sectors_in s bytes))) ≡ blocks_bytes ++ (directory_bytes ++ sectors_bytes) = rw (blocks_are, directory_is, sectors_are) refl in
    grouped ∙ (ap (λ (xs : List ℕ). head c ++ xs) (pieces ∙ sym body) ∙ sym (head_part c bytes whole.numbers.head.magic whole.numbers.head.long h refl refl refl))
