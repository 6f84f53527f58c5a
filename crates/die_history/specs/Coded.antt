-- How the logic stores a record of a die.
use Rattle.std.specs.Prelude.{◌≡◌, ◌⊎◌, ℕ, Bool, List}
use mathlib.Core.Path.{refl}
use mathlib.Core.Logic.{inl, inr}
use Rattle.std.specs.Coded.{Coded, code_by, coded×, coded⊎, coded_ℕ, coded_bool, coded_list}
use Rattle.page_layout.specs.Page.{Page, page}
use Rattle.page_layout.specs.Flash.{Operation, Program, Erase}
use Rattle.page_layout.specs.Recording.{Recording}

abbrev page_coded : Coded Page
page_coded = code_by (List ℕ × List ℕ) (coded× (coded_list coded_ℕ) (coded_list coded_ℕ)) (λ (p : Page). (p.body, p.spare)) (λ t. page t.0 t.1) (λ _. refl)

-- a program's row, page, outcome and what it left, or an erase's block, outcome and what it left
abbrev Parts : Type 0
Parts = (ℕ × (Page × (Bool × Page))) ⊎ (ℕ × (Bool × List Page))

abbrev to_parts : Operation → Parts
to_parts (Program row page passed left) = inl (row, (page, (passed, left)))
to_parts (Erase block passed left) = inr (block, (passed, left))

abbrev from_parts : Parts → Operation
from_parts (inl t) = Program t.0 t.1.0 t.1.1.0 t.1.1.1
from_parts (inr t) = Erase t.0 t.1.0 t.1.1

pub from_parts-to_parts : (op : Operation) → from_parts (to_parts op) ≡ op
from_parts-to_parts (Program row page passed left) = refl
from_parts-to_parts (Erase block passed left) = refl

abbrev operation_coded : Coded Operation
operation_coded = code_by Parts
    (coded⊎ (coded× coded_ℕ (coded× page_coded (coded× coded_bool page_coded))) (coded× coded_ℕ (coded× coded_bool (coded_list page_coded))))
    to_parts from_parts from_parts-to_parts

abbrev pub recording_coded : Coded Recording
recording_coded = code_by (List Page × (List Operation × List Operation)) (coded× (coded_list page_coded) (coded× (coded_list operation_coded) (coded_list operation_coded)))
    (λ (r : Recording). (r.image, (r.log, r.at_hand))) (λ t. record { image = t.0; log = t.1.0; at_hand = t.1.1 }) (λ _. refl)
