-- The words of a command ask for one thing.
use Rattle.std.proofs.Common.{◌≡◌, ◌≢◌, ℕ, suc, ◌+◌, ◌<◌, List, [], ◌∷◌, ◌++◌, length, get_or, Some, refl, sym, ◌∙◌, ap, subst, arith}
use Rattle.page_layout.specs.declared.geometry.Geometry.{Geometry}
use Rattle.page_layout.specs.Faults.{HasNumbers}
use Rattle.certificate.specs.Claim.{sizes_of}
use Rattle.ftl_device.proofs.GeometryLemmas.{same_geometry}
use Rattle.program_words.specs.declared.numbers.GeometryNumbers.{GeometryNumbers}
use Rattle.program_words.specs.Numbers.{SpellsGeometry, SpellsNumbers, StartsWithNumber, number_of}
use Rattle.program_words.proofs.NumberLemmas.{no_comma}
use Rattle.commands.specs.Format.{IsGeometry}
use Rattle.commands.specs.Sector.{AsksForNumber}
use Rattle.command_words.specs.declared.words.FileWords.{FileWords}
use Rattle.command_words.specs.declared.words.ImageWords.{ImageWords}

-- ---- a geometry is its numbers

abbrev list_of : GeometryNumbers → List ℕ
list_of z = z.data_bytes ∷ z.spare_bytes ∷ z.pages ∷ z.blocks ∷ z.sectors ∷ []

same_sizes : (a b : GeometryNumbers) (g h : Geometry) → list_of a ≡ list_of b → HasNumbers a.data_bytes a.spare_bytes a.pages a.blocks a.sectors g
    → HasNumbers b.data_bytes b.spare_bytes b.pages b.blocks b.sectors h → sizes_of g ≡ sizes_of h
same_sizes a b g h same x y =
    let bytes : a.data_bytes ≡ b.data_bytes = cc in
    let spare : a.spare_bytes ≡ b.spare_bytes = cc in
    let pages : a.pages ≡ b.pages = cc in
    let blocks : a.blocks ≡ b.blocks = cc in
    let sectors : a.sectors ≡ b.sectors = cc in
    let d : g.data_bytes ≡ h.data_bytes = x.data_bytes_is ∙ (bytes ∙ sym y.data_bytes_is) in
    let s : g.spare_bytes ≡ h.spare_bytes = x.spare_bytes_is ∙ (spare ∙ sym y.spare_bytes_is) in
    let p : g.pages ≡ h.pages = x.pages_is ∙ (pages ∙ sym y.pages_is) in
    let k : g.blocks ≡ h.blocks = x.blocks_is ∙ (blocks ∙ sym y.blocks_is) in
    let n : g.sectors ≡ h.sectors = x.sectors_is ∙ (sectors ∙ sym y.sectors_is) in
    cc

-- ---- five numbers between commas are read in one way

abbrev HasNoComma : List ℕ → Type 0
HasNoComma digits = (i : ℕ) → i < length digits → get_or digits i 0 ≢ 44

-- what stands before the first comma, and what behind it
one_cut : (a b rest other : List ℕ) → HasNoComma a → HasNoComma b → a ++ (44 ∷ rest) ≡ b ++ (44 ∷ other) → (a ≡ b) × (rest ≡ other)
one_cut [] [] rest other none also same = (refl, cc)
one_cut [] (d ∷ ds) rest other none also same = (let comma : d ≡ 44 = cc in absurd (also 0 (omega arith) comma))
one_cut (c ∷ cs) [] rest other none also same = (let comma : c ≡ 44 = cc in absurd (none 0 (omega arith) comma))
one_cut (c ∷ cs) (d ∷ ds) rest other none also same =
    let first : c ≡ d = cc in
    let behind : cs ++ (44 ∷ rest) ≡ ds ++ (44 ∷ other) = cc in
    let tails = one_cut cs ds rest other (λ i within. none (suc i) (omega (arith, within))) (λ i within. also (suc i) (omega (arith, within))) behind in
    let is : cs ≡ ds = tails.0 in
    (cc, tails.1)

same_value : (text : List ℕ) (n m : ℕ) → number_of text ≡ Some n → number_of text ≡ Some m → n ≡ m
same_value text n m is also = (let same : Some n ≡ Some m = sym is ∙ also in cc)

one_start : (text rest other : List ℕ) (n m : ℕ) → StartsWithNumber text n rest → StartsWithNumber text m other → (n ≡ m) × (rest ≡ other)
one_start text rest other n m x y =
    let cut = one_cut x.0 y.0 rest other (no_comma n x.0 x.2) (no_comma m y.0 y.2) (sym x.1 ∙ y.1) in
    (same_value y.0 n m (ap number_of (sym cut.0) ∙ x.2) y.2, cut.1)

one_list : (text : List ℕ) (ns ms : List ℕ) → length ns ≡ length ms → SpellsNumbers text ns → SpellsNumbers text ms → ns ≡ ms
one_list text [] ms long x y = absurd x
one_list text (n ∷ ns) [] long x y = absurd y
one_list text (n ∷ []) (m ∷ []) long x y = ap (λ k. k ∷ []) (same_value text n m x y)
one_list text (n ∷ []) (m ∷ k ∷ ms) long x y = absurd (omega (arith, long))
one_list text (n ∷ k ∷ ns) (m ∷ []) long x y = absurd (omega (arith, long))
one_list text (n ∷ k ∷ ns) (m ∷ l ∷ ms) long x y =
    let start = one_start text x.0 y.0 n m x.1 y.1 in
    let there : SpellsNumbers x.0 (l ∷ ms) = subst (λ t. SpellsNumbers t (l ∷ ms)) (sym start.1) y.2 in
    let first : n ≡ m = start.0 in
    let others : k ∷ ns ≡ l ∷ ms = one_list x.0 (k ∷ ns) (l ∷ ms) (omega (arith, long)) x.2 there in
    cc

one_geometry : (text : List ℕ) (a b : GeometryNumbers) (g h : Geometry) → SpellsGeometry text a → SpellsGeometry text b
    → HasNumbers a.data_bytes a.spare_bytes a.pages a.blocks a.sectors g → HasNumbers b.data_bytes b.spare_bytes b.pages b.blocks b.sectors h → g ≡ h
one_geometry text a b g h x y is also = same_geometry g h (same_sizes a b g h (one_list text (list_of a) (list_of b) refl x y) is also)

-- ---- so of the words

pub one_asked : (words : ImageWords) (g h : Geometry) (n m : ℕ) → AsksForNumber words g n → AsksForNumber words h m → (g ≡ h) × (n ≡ m)
one_asked words g h n m x y = (one_geometry words.geometry.now x.numbers y.numbers g h x.geometry y.geometry x.valid y.valid, same_value words.number.now n m x.sector y.sector)

pub one_format : (words : FileWords) (g h : Geometry) → IsGeometry words g → IsGeometry words h → g ≡ h
one_format words g h x y = one_geometry words.geometry.now x.numbers y.numbers g h x.spelled y.spelled x.valid y.valid
