-- From the files that the steps of a command asked for, to those that the command did.
use Rattle.std.proofs.Common.{◌≡◌, ◌∙◌, ℕ, List, [], ◌∷◌, ◌++◌, Option, Some, None, Result, Ok, Err, ap, inr, refl, subst, sym, append-nil}
use Rattle.std.proofs.lemmas.List.{append_assoc}
use Rattle.std.specs.Prelude.{take}
use Rattle.command_words.specs.declared.words.Order.{Order}
use Rattle.command_words.specs.Words.{IsOrder}
use Rattle.commands.specs.declared.text.CommandFault.{CommandFault}
use Rattle.commands.specs.Commands.{ObeyingTakes, files_of}
use Rattle.commands.specs.Files.{TakenFile, TakesFiles, with_taken}

-- none was asked for
pub none : (taken : Option (List TakenFile)) → taken ≡ with_taken taken []
none None = refl
none (Some known) = ap Some (sym (append-nil known))

-- one, and then one more
pub two : (first second : TakenFile) (before mid after : Option (List TakenFile)) → mid ≡ with_taken before (first ∷ []) → after ≡ with_taken mid (second ∷ []) → after ≡ with_taken before (first ∷ (second ∷ []))
two first second before mid after one then = then ∙ (ap (λ (t : Option (List TakenFile)). with_taken t (second ∷ [])) one ∙ joined before)
  where
    joined : (taken : Option (List TakenFile)) → with_taken (with_taken taken (first ∷ [])) (second ∷ []) ≡ with_taken taken (first ∷ (second ∷ []))
    joined None = refl
    joined (Some known) = ap Some (append_assoc known (first ∷ []) (second ∷ []))

-- some of them, and then the command ended
pub some : {T : Type 0} (files : List TakenFile) (count : ℕ) (before after : Option (List TakenFile)) (result : Result T CommandFault) (stop : CommandFault) → result ≡ Err stop
    → after ≡ with_taken before (take count files) → TakesFiles files before after result
some {T = T} files count before after result stop is same = subst (λ (r : Result T CommandFault). TakesFiles files before after r) (sym is) (count, same)

-- all of them
pub all : {T : Type 0} (files : List TakenFile) (count : ℕ) (before after : Option (List TakenFile)) (result : Result T CommandFault) → take count files ≡ files
    → after ≡ with_taken before files → TakesFiles files before after result
all files count before after (Ok done) whole same = same
all files count before after (Err stop) whole same = (count, same ∙ ap (with_taken before) (sym whole))

-- what the order of the words asked for, the words did
pub obeying : (words : List (List ℕ)) (before after : Option (List TakenFile)) (order : Order) (result : Result (Unit {0}) CommandFault) → IsOrder words order
    → TakesFiles (files_of order) before after result → ObeyingTakes words before after result
obeying words before after order (Ok done) is takes = record { order = order; is = is; takes = takes }
obeying words before after order (Err stop) is takes = inr (record { order = order; is = is; takes = takes })
