-- What a program leaves in its page.
use Rattle.std.proofs.Common.{◌≡◌, ℕ, Bool, true, false, List, length, refl, sym, ◌∙◌, ap, arith, get_or, lt-ltb, nat_lt, if◌then◌else◌}
use Rattle.std.specs.Prelude.{slice_set}
use Rattle.std.proofs.lemmas.List.{set-get_or}
use Rattle.page_layout.specs.declared.geometry.Geometry.{Geometry}
use Rattle.page_layout.specs.Page.{Page}
use Rattle.page_layout.specs.Flash.{no_page}
use Rattle.onfi_cycles.specs.Cycles.{page_of}
use Rattle.nand_die.specs.NextPages.{left_page}

bare_left : (g : Geometry) (old : Page) (legal : Bool) (page : Page) (left : List ℕ) → nat_lt 0 (length left) ≡ false → left_page g old legal false page left ≡ old
bare_left g old false page left e = refl
bare_left g old true page left e = ap (λ b. if b then page_of g left else old) e

-- it passed
pub passed_page : (g : Geometry) (ps qs : List Page) (row : ℕ) (old page : Page) (legal passed : Bool) (left : List ℕ) → passed ≡ true → qs ≡ slice_set ps row page → qs ≡ slice_set ps row (left_page g old legal passed page left)
passed_page g ps qs row old page legal passed left p written = written ∙ ap (λ b. slice_set ps row (left_page g old legal b page left)) (sym p)

-- it was illegal
pub refused_page : (g : Geometry) (ps : List Page) (row : ℕ) (page : Page) (legal passed : Bool) (left : List ℕ) → passed ≡ false → legal ≡ false → ps ≡ slice_set ps row (left_page g (get_or ps row no_page) legal passed page left)
refused_page g ps row page legal passed left p l =
    let old : Page = get_or ps row no_page in
    sym (ap (λ b. slice_set ps row (left_page g old legal b page left)) p ∙ (ap (λ b. slice_set ps row (left_page g old b false page left)) l ∙ set-get_or ps row no_page))

-- the fault leaves the page as it was
pub bare_page : (g : Geometry) (ps : List Page) (row : ℕ) (page : Page) (legal passed : Bool) (left : List ℕ) → passed ≡ false → length left ≡ 0 → ps ≡ slice_set ps row (left_page g (get_or ps row no_page) legal passed page left)
bare_page g ps row page legal passed left p e =
    let old : Page = get_or ps row no_page in
    sym (ap (λ b. slice_set ps row (left_page g old legal b page left)) p ∙ (ap (slice_set ps row) (bare_left g old legal page left (ap (λ k. nat_lt 0 k) e)) ∙ set-get_or ps row no_page))

-- it leaves bytes in it
pub struck_page : (g : Geometry) (ps qs : List Page) (row : ℕ) (old page : Page) (legal passed : Bool) (left : List ℕ) → passed ≡ false → legal ≡ true → (length left ≡ 0 → ⊥) → qs ≡ slice_set ps row (page_of g left)
    → qs ≡ slice_set ps row (left_page g old legal passed page left)
struck_page g ps qs row old page legal passed left p l some written =
    let is : left_page g old legal passed page left ≡ page_of g left
    = ap (λ b. left_page g old legal b page left) p ∙ (ap (λ b. left_page g old b false page left) l ∙ ap (λ b. if b then page_of g left else old) (lt-ltb 0 (length left) (omega (arith, some)))) in
    written ∙ ap (slice_set ps row) (sym is)
