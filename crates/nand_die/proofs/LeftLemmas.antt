-- What an erase that failed leaves in its block.
use Rattle.std.proofs.Common.{◌≡◌, ℕ, zero, suc, ◌+◌, ◌*◌, ◌<◌, ◌≤◌, Bool, true, false, List, ◌∷◌, ◌++◌, take, drop, length, refl, sym, ◌∙◌, ap}
use Rattle.std.proofs.Common.{arith, get_or, lt-ltb, nat_lt, if◌then◌else◌}
use Rattle.std.specs.Prelude.{slice_set}
use Rattle.std.proofs.Math.Seq.{drop-cons, set-append_seam}
use Rattle.std.proofs.lemmas.List.{length-take-le, take-append-drop, drop-drop}
use Rattle.page_layout.specs.declared.geometry.Geometry.{Geometry}
use Rattle.page_layout.specs.Page.{Page}
use Rattle.page_layout.specs.Flash.{with_block}
use Rattle.onfi_cycles.specs.Cycles.{page_of}
use Rattle.nand_die.specs.NextPages.{left_block}

-- the pages of a block in an image
abbrev pub block_of : Geometry → ℕ → List Page → List Page
block_of g block ps = take g.pages (drop (block * g.pages) ps)

-- a block that stays
block_stays : (xs : List Page) (a b : ℕ) → take a xs ++ (take b (drop a xs) ++ drop (a + b) xs) ≡ xs
block_stays xs a b = ap (λ ys. take a xs ++ (take b (drop a xs) ++ ys)) (sym (drop-drop b a xs)) ∙ (ap (λ ys. take a xs ++ ys) (take-append-drop b (drop a xs)) ∙ take-append-drop a xs)

-- page 0 of a block was written
block_struck : (xs : List Page) (a b : ℕ) (p : Page) → 0 < b → a + b ≤ length xs → slice_set xs a p ≡ take a xs ++ ((p ∷ drop 1 (take b (drop a xs))) ++ drop (a + b) xs)
block_struck xs a zero p some le = absurd (omega (arith, some))
block_struck xs a (suc b) p some le =
    let y : Page = get_or xs a p in
    let ys : List Page = drop (suc a) xs in
    let lt : a < length xs = omega (arith, le) in
    let cons : drop a xs ≡ y ∷ ys = drop-cons xs a p lt in
    let la : length (take a xs) ≡ a = length-take-le a xs (omega (arith, lt)) in
    let whole : xs ≡ take a xs ++ (y ∷ ys) = sym (take-append-drop a xs) ∙ ap (λ zs. take a xs ++ zs) cons in
    let rest : drop b ys ≡ drop (a + suc b) xs = drop-drop b (suc a) xs ∙ ap (λ k. drop k xs) (omega arith) in
    ap (λ zs. slice_set zs a p) whole
    ∙ (ap (λ k. slice_set (take a xs ++ (y ∷ ys)) k p) (sym la)
    ∙ (set-append_seam (take a xs) y ys p
    ∙ (ap (λ zs. take a xs ++ (p ∷ zs)) (sym (take-append-drop b ys))
    ∙ (ap (λ zs. take a xs ++ (p ∷ (take b ys ++ zs))) rest
    ∙ ap (λ zs. take a xs ++ ((p ∷ drop 1 (take (suc b) zs)) ++ drop (a + suc b) xs)) (sym cons)))))

refused_left : (g : Geometry) (old : List Page) (legal passed : Bool) (left : List ℕ) → passed ≡ false → legal ≡ false → left_block g old legal passed left ≡ old
refused_left g old legal passed left p l = ap (λ b. left_block g old legal b left) p ∙ ap (λ b. left_block g old b false left) l

bare_cases : (g : Geometry) (old : List Page) (legal : Bool) (left : List ℕ) → nat_lt 0 (length left) ≡ false → left_block g old legal false left ≡ old
bare_cases g old false left e = refl
bare_cases g old true left e = ap (λ b. if b then page_of g left ∷ drop 1 old else old) e

-- the erase was illegal
pub refused_block : (g : Geometry) (ps : List Page) (block : ℕ) (legal passed : Bool) (left : List ℕ) → passed ≡ false → legal ≡ false
    → ps ≡ with_block g.pages block (left_block g (block_of g block ps) legal passed left) ps
refused_block g ps block legal passed left p l =
    sym (ap (λ m. with_block g.pages block m ps) (refused_left g (block_of g block ps) legal passed left p l) ∙ block_stays ps (block * g.pages) g.pages)

-- the fault leaves the block as it was
pub bare_block : (g : Geometry) (ps : List Page) (block : ℕ) (legal passed : Bool) (left : List ℕ) → passed ≡ false → length left ≡ 0
    → ps ≡ with_block g.pages block (left_block g (block_of g block ps) legal passed left) ps
bare_block g ps block legal passed left p e =
    sym (ap (λ m. with_block g.pages block m ps) (ap (λ b. left_block g (block_of g block ps) legal b left) p ∙ bare_cases g (block_of g block ps) legal left (ap (λ k. nat_lt 0 k) e))
    ∙ block_stays ps (block * g.pages) g.pages)

-- it leaves bytes in page 0
pub struck_block : (g : Geometry) (ps qs : List Page) (block row : ℕ) (legal passed : Bool) (left : List ℕ) → passed ≡ false → legal ≡ true → 0 < length left → block * g.pages + g.pages ≤ length ps → row ≡ block * g.pages
    → qs ≡ slice_set ps row (page_of g left)
    → qs ≡ with_block g.pages block (left_block g (block_of g block ps) legal passed left) ps
struck_block g ps qs block row legal passed left p l some le at written =
    let old : List Page = block_of g block ps in
    let is : left_block g old legal passed left ≡ page_of g left ∷ drop 1 old
    = ap (λ b. left_block g old legal b left) p ∙ (ap (λ b. left_block g old b false left) l ∙ ap (λ b. if b then page_of g left ∷ drop 1 old else old) (lt-ltb 0 (length left) some)) in
    written ∙ (ap (λ r. slice_set ps r (page_of g left)) at ∙ (block_struck ps (block * g.pages) g.pages (page_of g left) (omega (arith, g.limits.page_count.least)) le
    ∙ ap (λ m. with_block g.pages block m ps) (sym is)))
