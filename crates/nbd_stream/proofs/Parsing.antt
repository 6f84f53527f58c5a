-- 28 bytes that spell a header.
use Rattle.std.proofs.Common.{◌≡◌, ◌<◌, ℕ, List, [], ◌∷◌, ◌++◌, length, get_or, zero, suc, refl, sym, ap, ◌∙◌, arith}
use Rattle.std.specs.Prelude.{slice_index, slice_range}
use Rattle.std.specs.Int.{to_be_bytes, w16, w32, w64}
use Rattle.std.proofs.lemmas.Nat.{be_bytes_2, be_bytes_4, be_bytes_8}
use Rattle.byteorder.specs.Endian.{big_number}
use Rattle.nbd_stream.specs.Frames.{SpellsHeader}
use Rattle.nbd_stream.specs.declared.request.NbdHeader.{NbdHeader}

-- cells below 256
small_2 : (a b : ℕ) → a < 256 → b < 256 → (i : ℕ) → get_or (a ∷ b ∷ []) i 0 < 256
small_2 a b pa pb zero = pa
small_2 a b pa pb (suc zero) = pb
small_2 a b pa pb (suc (suc i)) = omega arith

small_3 : (b c d : ℕ) → b < 256 → c < 256 → d < 256 → (i : ℕ) → get_or (b ∷ c ∷ d ∷ []) i 0 < 256
small_3 b c d pb pc pd zero = pb
small_3 b c d pb pc pd (suc i) = small_2 c d pc pd i

small_4 : (a b c d : ℕ) → a < 256 → b < 256 → c < 256 → d < 256 → (i : ℕ) → get_or (a ∷ b ∷ c ∷ d ∷ []) i 0 < 256
small_4 a b c d pa pb pc pd zero = pa
small_4 a b c d pa pb pc pd (suc i) = small_3 b c d pb pc pd i

small_8 : (a b c d e f g h : ℕ) → a < 256 → b < 256 → c < 256 → d < 256 → e < 256 → f < 256 → g < 256 → h < 256 → (i : ℕ) → get_or (a ∷ b ∷ c ∷ d ∷ e ∷ f ∷ g ∷ h ∷ []) i 0 < 256
small_8 a b c d e f g h pa pb pc pd pe pf pg ph zero = pa
small_8 a b c d e f g h pa pb pc pd pe pf pg ph (suc zero) = pb
small_8 a b c d e f g h pa pb pc pd pe pf pg ph (suc (suc zero)) = pc
small_8 a b c d e f g h pa pb pc pd pe pf pg ph (suc (suc (suc zero))) = pd
small_8 a b c d e f g h pa pb pc pd pe pf pg ph (suc (suc (suc (suc i)))) = small_4 e f g h pe pf pg ph i

-- a number's cells are its bytes
pub cells_2 : (a b n : ℕ) → a < 256 → b < 256 → n ≡ big_number 2 (a ∷ b ∷ []) → to_be_bytes w16 n ≡ (a ∷ b ∷ [])
cells_2 a b n pa pb is = be_bytes_2 (a ∷ b ∷ []) n refl (small_2 a b pa pb) (omega (arith, is))

pub cells_4 : (a b c d n : ℕ) → a < 256 → b < 256 → c < 256 → d < 256 → n ≡ big_number 4 (a ∷ b ∷ c ∷ d ∷ []) → to_be_bytes w32 n ≡ (a ∷ b ∷ c ∷ d ∷ [])
cells_4 a b c d n pa pb pc pd is = be_bytes_4 (a ∷ b ∷ c ∷ d ∷ []) n refl (small_4 a b c d pa pb pc pd) (omega (arith, is))

pub cells_8 : (a b c d e f g h n : ℕ) → a < 256 → b < 256 → c < 256 → d < 256 → e < 256 → f < 256 → g < 256 → h < 256 → n ≡ big_number 8 (a ∷ b ∷ c ∷ d ∷ e ∷ f ∷ g ∷ h ∷ []) → to_be_bytes w64 n ≡ (a ∷ b ∷ c ∷ d ∷ e ∷ f ∷ g ∷ h ∷ [])
cells_8 a b c d e f g h n pa pb pc pd pe pf pg ph is = be_bytes_8 (a ∷ b ∷ c ∷ d ∷ e ∷ f ∷ g ∷ h ∷ []) n refl (small_8 a b c d e f g h pa pb pc pd pe pf pg ph) (omega (arith, is))

-- what is read of 28 bytes
pub record Reads (xs : List ℕ) (h : NbdHeader) : Type 0 where
  pub flags : h.flags ≡ big_number 2 (slice_range xs 4 6)
  pub code : h.code ≡ big_number 2 (slice_range xs 6 8)
  pub cookie : h.cookie ≡ big_number 8 (slice_range xs 8 16)
  pub offset : h.offset ≡ big_number 8 (slice_range xs 16 24)
  pub count : h.count ≡ big_number 4 (slice_range xs 24 28)

pub spelled : (xs : List ℕ) (h : NbdHeader) → length xs ≡ 28 → ((i : ℕ) → get_or xs i 0 < 256) → slice_index xs 0 ≡ 37 → slice_index xs 1 ≡ 96 → slice_index xs 2 ≡ 149 → slice_index xs 3 ≡ 19 → Reads xs h → SpellsHeader xs h
spelled (x0 ∷ x1 ∷ x2 ∷ x3 ∷ x4 ∷ x5 ∷ x6 ∷ x7 ∷ x8 ∷ x9 ∷ x10 ∷ x11 ∷ x12 ∷ x13 ∷ x14 ∷ x15 ∷ x16 ∷ x17 ∷ x18 ∷ x19 ∷ x20 ∷ x21 ∷ x22 ∷ x23 ∷ x24 ∷ x25 ∷ x26 ∷ x27 ∷ []) h long small m0 m1 m2 m3 read =
    let flags = cells_2 x4 x5 h.flags (small 4) (small 5) read.flags in
    let code = cells_2 x6 x7 h.code (small 6) (small 7) read.code in
    let cookie = cells_8 x8 x9 x10 x11 x12 x13 x14 x15 h.cookie (small 8) (small 9) (small 10) (small 11) (small 12) (small 13) (small 14) (small 15) read.cookie in
    let offset = cells_8 x16 x17 x18 x19 x20 x21 x22 x23 h.offset (small 16) (small 17) (small 18) (small 19) (small 20) (small 21) (small 22) (small 23) read.offset in
    let count = cells_4 x24 x25 x26 x27 h.count (small 24) (small 25) (small 26) (small 27) read.count in
    let spell : ℕ → ℕ → ℕ → ℕ → List ℕ → List ℕ → List ℕ → List ℕ → List ℕ → List ℕ = λ a b c d f k o p n. a ∷ b ∷ c ∷ d ∷ (f ++ (k ++ (o ++ (p ++ n)))) in
    let f2 : List ℕ = x4 ∷ x5 ∷ [] in
    let k2 : List ℕ = x6 ∷ x7 ∷ [] in
    let o8 : List ℕ = x8 ∷ x9 ∷ x10 ∷ x11 ∷ x12 ∷ x13 ∷ x14 ∷ x15 ∷ [] in
    let p8 : List ℕ = x16 ∷ x17 ∷ x18 ∷ x19 ∷ x20 ∷ x21 ∷ x22 ∷ x23 ∷ [] in
    let n4 : List ℕ = x24 ∷ x25 ∷ x26 ∷ x27 ∷ [] in
    record {
      whole = ap (λ (a : ℕ). spell a x1 x2 x3 f2 k2 o8 p8 n4) m0
          ∙ ap (λ (b : ℕ). spell 37 b x2 x3 f2 k2 o8 p8 n4) m1
          ∙ ap (λ (c : ℕ). spell 37 96 c x3 f2 k2 o8 p8 n4) m2
          ∙ ap (λ (d : ℕ). spell 37 96 149 d f2 k2 o8 p8 n4) m3
          ∙ ap (λ (f : List ℕ). spell 37 96 149 19 f k2 o8 p8 n4) (sym flags)
          ∙ ap (λ (k : List ℕ). spell 37 96 149 19 (to_be_bytes w16 h.flags) k o8 p8 n4) (sym code)
          ∙ ap (λ (o : List ℕ). spell 37 96 149 19 (to_be_bytes w16 h.flags) (to_be_bytes w16 h.code) o p8 n4) (sym cookie)
          ∙ ap (λ (p : List ℕ). spell 37 96 149 19 (to_be_bytes w16 h.flags) (to_be_bytes w16 h.code) (to_be_bytes w64 h.cookie) p n4) (sym offset)
          ∙ ap (λ (n : List ℕ). spell 37 96 149 19 (to_be_bytes w16 h.flags) (to_be_bytes w16 h.code) (to_be_bytes w64 h.cookie) (to_be_bytes w64 h.offset) n) (sym count);
      flags = omega (arith, read.flags, small 4, small 5);
      code = omega (arith, read.code, small 6, small 7);
      cookie = omega (arith, read.cookie, small 8, small 9, small 10, small 11, small 12, small 13, small 14, small 15);
      offset = omega (arith, read.offset, small 16, small 17, small 18, small 19, small 20, small 21, small 22, small 23);
      count = omega (arith, read.count, small 24, small 25, small 26, small 27);
    }
spelled _ h long small m0 m1 m2 m3 read = absurd (omega arith)

-- the header that 28 bytes give
abbrev pub header_in : List ℕ → NbdHeader
header_in xs = record {
  flags = big_number 2 (slice_range xs 4 6);
  code = big_number 2 (slice_range xs 6 8);
  cookie = big_number 8 (slice_range xs 8 16);
  offset = big_number 8 (slice_range xs 16 24);
  count = big_number 4 (slice_range xs 24 28);
}

pub reads_in : (xs : List ℕ) → Reads xs (header_in xs)
reads_in xs = record { flags = refl; code = refl; cookie = refl; offset = refl; count = refl }
