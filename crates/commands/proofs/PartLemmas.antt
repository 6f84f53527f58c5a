-- The parts of a line, one after another.
use Rattle.std.proofs.Common.{◌≡◌, ◌<◌, ◌+◌, ◌++◌, ◌∷◌, [], ℕ, zero, suc, List, Option, None, Some, Bor, get_or, length, take, drop, ap, sym, subst, ◌∙◌, add-one, append-nil, append_assoc}
use Rattle.std.specs.Prelude.{slice_get}
use Rattle.std.specs.List.{concat}
use Rattle.std.specs.Option.{option_map}
use Rattle.std.proofs.lemmas.Option.{slice_get-get_or, slice_get-map}
use Rattle.command_words.specs.Words.{texts}
use Rattle.std.specs.Io.KnownBytes.{Appends}
use Rattle.std.proofs.KnownBytes.{Appends-trans}
use Rattle.request_stream.specs.Frames.{AppendsPart}
use Rattle.request_stream.proofs.Writing.{missing_before}

-- those before a part, the part, and those behind it
pub concat_at : (xs : List (List ℕ)) (k : ℕ) (x : List ℕ) → slice_get xs k ≡ Some x → concat xs ≡ concat (take k xs) ++ (x ++ concat (drop (suc k) xs))
concat_at [] k x is = absurd (let clash : None ≡ Some x = is in cc)
concat_at (y ∷ ys) zero x is = ap (λ p. p ++ concat ys) (let same : Some y ≡ Some x = is in cc)
concat_at (y ∷ ys) (suc k) x is = ap (λ l. y ++ l) (concat_at ys k x is) ∙ sym (append_assoc y (concat (take k ys)) (x ++ concat (drop (suc k) ys)))

pub concat_take : (xs : List (List ℕ)) (k : ℕ) (x : List ℕ) → slice_get xs k ≡ Some x → concat (take (suc k) xs) ≡ concat (take k xs) ++ x
concat_take [] k x is = absurd (let clash : None ≡ Some x = is in cc)
concat_take (y ∷ ys) zero x is = append-nil y ∙ (let same : Some y ≡ Some x = is in cc)
concat_take (y ∷ ys) (suc k) x is = ap (λ l. y ++ l) (concat_take ys k x is) ∙ sym (append_assoc y (concat (take k ys)) x)

-- a part was sent after those before it
pub sent_more : (b m a : Option (List ℕ)) (xs : List (List ℕ)) (k : ℕ) (x : List ℕ) → slice_get xs k ≡ Some x → Appends b m (concat (take k xs)) → Appends m a x → Appends b a (concat (take (k + 1) xs))
sent_more b m a xs k x is first second =
    let whole : concat (take k xs) ++ x ≡ concat (take (k + 1) xs) = sym (concat_take xs k x is) ∙ ap (λ n. concat (take n xs)) (sym (add-one k)) in
    subst (Appends b a) whole (Appends-trans b m a (concat (take k xs)) x first second)

-- or a part of it
pub sent_stop : (b m a : Option (List ℕ)) (xs : List (List ℕ)) (k : ℕ) (x : List ℕ) → slice_get xs k ≡ Some x → Appends b m (concat (take k xs)) → AppendsPart m a x → AppendsPart b a (concat xs)
sent_stop b m a xs k x is first (sent, more, missing, split, second) =
    let before = concat (take k xs) in
    let behind = concat (drop (suc k) xs) in
    let inner : sent ++ (more ++ behind) ≡ x ++ behind = sym (append_assoc sent more behind) ∙ ap (λ l. l ++ behind) split in
    (before ++ sent, more ++ behind, missing_before more behind missing, append_assoc before sent (more ++ behind) ∙ ap (λ l. before ++ l) inner ∙ sym (concat_at xs k x is), Appends-trans b m a before sent first second)

-- the part at a place
pub part_at : (parts : List (Bor (List ℕ))) (k : ℕ) (x : List ℕ) (d : Bor (List ℕ)) → k < length parts → x ≡ (get_or parts k d).now → slice_get (texts parts) k ≡ Some x
part_at parts k x d within is =
    slice_get-map (λ (word : Bor (List ℕ)). word.now) parts k ∙ (ap (option_map (λ (word : Bor (List ℕ)). word.now)) (slice_get-get_or parts k d within) ∙ ap Some (sym is))
