-- A store of erased pages in memory.
use Rattle.std.proofs.Common.{◌≡◌, ℕ, ◌*◌, List, true, replicate, ap, ◌∙◌}
use Rattle.std.specs.Prelude.{Result, Ok, Err, IfOk}
use Rattle.page_layout.specs.declared.geometry.Geometry.{Geometry}
use Rattle.page_layout.specs.Geometry.{page_bytes, row_count}
use Rattle.page_layout.specs.Raw.{raw_image}
use Rattle.nand_die.proofs.PagesLemmas.{blank_image}
use Rattle.file_die.specs.Memory.{Memory, standing}
use Rattle.file_die.specs.Store.{blank}

pub erased : {E : Type 0} (r : Result Memory E) (g : Geometry) (bytes : List ℕ) (n : ℕ) → bytes ≡ replicate n 255 → n ≡ row_count g * page_bytes g
    → IfOk r (λ store. store ≡ record { geometry = g; pages = raw_image g bytes }) → IfOk r (λ store. true ≡ true → standing store.geometry store.pages ≡ blank g)
erased (Ok store) g bytes n is all h = λ _. ap (λ (m : Memory). standing m.geometry m.pages) h ∙ ap (standing g) (ap (raw_image g) is ∙ blank_image g n all)
erased (Err e) g bytes n is all h = tt
