-- Blocks named bad one after another are bad, and no other block changes.
use Rattle.std.proofs.Common.{◌≡◌, ◌≢◌, ◌<◌, ℕ, Bool, true, false, ◌||◌, List, [], ◌∷◌, length, take, get_or, refl, sym, ◌∙◌, ap, inl, inr, arith}
use Rattle.std.proofs.lemmas.Bool.{cases_eq, eq-eqb, ne_eqb}
use Rattle.std.proofs.lemmas.List.{get_or-set_same, get_or-set_other, length-set}
use Rattle.page_layout.specs.Flash.{NextState, no_next_page}
use Rattle.nand_die.specs.Made.{all_barred, barred_next_page, is_named, with_barred}
use Rattle.die_laws.specs.Names.{bad_if, NamedAllLaw, NamedUpToLaw}

bad_twice : (named : Bool) (t : NextState) → bad_if named (barred_next_page t) ≡ barred_next_page t
bad_twice true t = refl
bad_twice false t = refl

all_long : (ts : List NextState) (names : List ℕ) → length (all_barred ts names) ≡ length ts
all_long ts [] = refl
all_long ts (name ∷ names) = all_long (with_barred ts name) names ∙ length-set ts name (barred_next_page (get_or ts name no_next_page))

all_at : (ts : List NextState) (names : List ℕ) (k : ℕ) → k < length ts → get_or (all_barred ts names) k no_next_page ≡ bad_if (is_named names k) (get_or ts k no_next_page)
all_at ts [] k lt = refl
all_at ts (name ∷ names) k lt =
    let bad : NextState = barred_next_page (get_or ts name no_next_page) in
    let later : get_or (all_barred (with_barred ts name) names) k no_next_page ≡ bad_if (is_named names k) (get_or (with_barred ts name) k no_next_page)
    = all_at (with_barred ts name) names k (omega (arith, lt, length-set ts name bad)) in
    elim (cases_eq name k) [
      | inl same ↦
          let here : get_or (with_barred ts name) k no_next_page ≡ barred_next_page (get_or ts k no_next_page)
          = ap (λ j. get_or (with_barred ts name) j no_next_page) (sym same) ∙ (get_or-set_same ts name bad no_next_page (omega (arith, lt, same)) ∙ ap (λ j. barred_next_page (get_or ts j no_next_page)) same) in
          later ∙ (ap (bad_if (is_named names k)) here ∙ (bad_twice (is_named names k) (get_or ts k no_next_page) ∙ ap (λ b. bad_if (b || is_named names k) (get_or ts k no_next_page)) (sym (eq-eqb name k same))))
      | inr other ↦
          let there : get_or (with_barred ts name) k no_next_page ≡ get_or ts k no_next_page = get_or-set_other ts name k bad no_next_page (λ e. other (sym e)) in
          later ∙ (ap (bad_if (is_named names k)) there ∙ ap (λ b. bad_if (b || is_named names k) (get_or ts k no_next_page)) (sym (ne_eqb name k other)))
    ]

pub named_all : NamedAllLaw
named_all old new names all = record {
  long = ap length all.left ∙ all_long old names;
  each = λ k lt. ap (λ ts. get_or ts k no_next_page) all.left ∙ all_at old names k lt;
}

pub named_up_to : NamedUpToLaw
named_up_to old new names block stops = (
  stops.at,
  stops.refused.here,
  record {
    long = ap length stops.left ∙ all_long old (take stops.at names);
    each = λ k lt. ap (λ ts. get_or ts k no_next_page) stops.left ∙ all_at old (take stops.at names) k lt;
  },
)
