-- Bits that are wrong, part by part.
use Rattle.std.proofs.Common.{◌≡◌, ℕ, ◌+◌, ◌-◌, zero, suc, min, List, [], ◌∷◌, ◌++◌, length, take, drop, refl, ap, ◌∙◌, arith}
use Rattle.std.proofs.lemmas.List.{drop-drop}
use Rattle.page_layout.specs.declared.geometry.Geometry.{Geometry}
use Rattle.page_layout.specs.Page.{page}
use Rattle.error_correction.specs.Bits.{bits_apart}
use Rattle.error_correction.specs.Code.{code_of}
use Rattle.error_correction.specs.Correct.{wrong_bits}
use Rattle.error_correction.proofs.Apart.{apart_self}
use Rattle.page_code.specs.Layout.{chunk_count, codes_of}
use Rattle.page_code.specs.Wrong.{bits_wrong}
use Rattle.page_code.proofs.Parts.{parts}
use Rattle.page_code.proofs.Chunks.{codes_step}

none_apart : (ys : List ℕ) → bits_apart ys [] ≡ 0
none_apart [] = refl
none_apart (y ∷ ys) = refl

-- of two lists one behind the other
pub apart_split : (n : ℕ) (xs ys zs : List ℕ) → length xs ≡ n → bits_apart (xs ++ ys) zs ≡ bits_apart xs (take n zs) + bits_apart ys (drop n zs)
apart_split zero [] ys zs e = omega arith
apart_split zero (x ∷ xs) ys zs e = absurd (omega arith)
apart_split (suc n) [] ys zs e = absurd (omega arith)
apart_split (suc n) (x ∷ xs) ys [] e = omega (arith, none_apart ys)
apart_split (suc n) (x ∷ xs) ys (z ∷ zs) e = omega (arith, apart_split n xs ys zs (omega arith))

-- of no chunk
pub none_wrong : (n : ℕ) (body codes : List ℕ) → n ≡ 0 → 0 ≡ bits_apart body body + bits_apart (codes_of n body) codes
none_wrong zero body codes e = omega (arith, apart_self body)
none_wrong (suc n) body codes e = absurd (omega arith)

-- of a chunk and those behind it
pub more_wrong : (n s : ℕ) (body codes new ys : List ℕ) (here rest all : ℕ) → (n ≡ 0 → ⊥) → s ≡ min (length body) 256 → length new ≡ s → length ys ≡ length body - s
    → wrong_bits new (take s body) (take 3 codes) ≡ here → rest ≡ bits_apart ys (drop s body) + bits_apart (codes_of (n - 1) ys) (drop 3 codes) → all ≡ here + rest
    → all ≡ bits_apart (new ++ ys) body + bits_apart (codes_of n (new ++ ys)) codes
more_wrong n s body codes new ys here rest all h e f g w r a =
    let p = parts (length body) s new ys e f g in
    let areas : bits_apart (new ++ ys) body ≡ bits_apart new (take s body) + bits_apart ys (drop s body) = apart_split s new ys body f in
    let step : codes_of n (new ++ ys) ≡ code_of new ++ codes_of (n - 1) ys =
    codes_step n (new ++ ys) h ∙ (ap (λ z. code_of z ++ codes_of (n - 1) (drop 256 (new ++ ys))) p.first ∙ ap (λ z. code_of new ++ codes_of (n - 1) z) p.rest) in
    let code : bits_apart (codes_of n (new ++ ys)) codes ≡ bits_apart (code_of new) (take 3 codes) + bits_apart (codes_of (n - 1) ys) (drop 3 codes) =
    ap (λ z. bits_apart z codes) step ∙ apart_split 3 (code_of new) (codes_of (n - 1) ys) codes refl in
    omega (arith, areas, code, w, r, a)

-- of a page: of its spare area with its code, and of the chunks of its data area with theirs
pub page_wrong : (g : Geometry) (new body spare outer : List ℕ) (here rest all : ℕ) → length spare ≡ g.spare_bytes → wrong_bits spare (take g.spare_bytes outer) (take 3 (drop g.spare_bytes outer)) ≡ here
    → rest ≡ bits_apart new body + bits_apart (codes_of (chunk_count g) new) (drop (g.spare_bytes + 3) outer) → all ≡ here + rest → all ≡ bits_wrong g (page new spare) (page body outer)
unfolding bits_wrong
page_wrong g new body spare outer here rest all e w r a =
    let s = g.spare_bytes in
    let codes = codes_of (chunk_count g) new in
    let first : bits_apart (spare ++ (code_of spare ++ codes)) outer ≡ bits_apart spare (take s outer) + bits_apart (code_of spare ++ codes) (drop s outer) = apart_split s spare (code_of spare ++ codes) outer e in
    let second : bits_apart (code_of spare ++ codes) (drop s outer) ≡ bits_apart (code_of spare) (take 3 (drop s outer)) + bits_apart codes (drop 3 (drop s outer)) = apart_split 3 (code_of spare) codes (drop s outer) refl in
    omega (arith, first, second, ap (λ z. bits_apart codes z) (drop-drop 3 s outer), w, r, a)
