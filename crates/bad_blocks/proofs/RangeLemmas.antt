-- Lists that are made number by number.
use Rattle.std.proofs.Common.{◌≡◌, ℕ, ◌<◌, List, length, map, get_or, sym, ◌∙◌, zero-add}
use Rattle.std.specs.List.{range_with_len}
use Rattle.std.proofs.lemmas.List.{same_lists, get_or_default}
use Rattle.std.proofs.lemmas.List.FromFn.{length-map-range_with_len, get_or-map-range_with_len}

-- a list whose element at each place is f's is a map of f
pub map_range_from_places : {X : Type 0} (f : ℕ → X) (n : ℕ) (d : X) (xs : List X) → length xs ≡ n → ((k : ℕ) → k < n → get_or xs k d ≡ f k) → xs ≡ map f (range_with_len 0 n)
map_range_from_places f n d xs size same =
    same_lists xs (map f (range_with_len 0 n)) (size ∙ sym (length-map-range_with_len f 0 n))
    (λ k e l.
    let within : k < n = rw (← size) l in
    get_or_default xs k e d l ∙ (same k within ∙ sym (get_or-map-range_with_len f 0 n k k e within (zero-add k))))
