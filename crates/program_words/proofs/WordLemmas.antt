-- What the words of a command give.
use Rattle.std.proofs.Common.{◌≡◌, List, length, Option, Some, None, option_map, ap, sym, ◌∙◌}
use Rattle.std.specs.Borrow.{Bor}
use Rattle.std.proofs.lemmas.List.{length-map}
use Rattle.clap.specs.Walk.{Text}
use Rattle.program_words.specs.Met.{texts}

-- the entry of a word, where there is one
pub entry_of : {X Y : Type 0} (f : X → Y) (found : Option X) (word : X) (entry : Option Y) → option_map f found ≡ entry → found ≡ Some word → entry ≡ Some (f word)
entry_of f found word entry is some = sym is ∙ ap (option_map f) some

-- a word that is not there is the entry of none
pub lacks : {X Y : Type 0} (f : X → Y) (found : Option X) (word : Y) (entry : Option Y) → option_map f found ≡ entry → found ≡ None → entry ≡ Some word → ⊥
lacks f found word entry is none some =
    let no : entry ≡ None = sym is ∙ ap (option_map f) none in
    let clash : Some word ≡ None = sym some ∙ no in
    cc

-- several words are as many, however they are found
pub as_many : (entry : Option (List Text)) (xs ys : List (Bor Text)) → entry ≡ Some (texts xs) → entry ≡ Some (texts ys) → length xs ≡ length ys
as_many entry xs ys a b =
    let same : texts xs ≡ texts ys = cc in
    sym (length-map xs (λ (w : Bor Text). w.now)) ∙ (ap length same ∙ length-map ys (λ (w : Bor Text). w.now))
