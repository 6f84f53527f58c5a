-- The sequences of a log's pages.
use Rattle.std.proofs.Common.{◌≡◌, ℕ, ◌+◌, ◌<◌, ◌≤◌, Bool, List, [], ◌∷◌, ◌++◌, Option, Some, None, refl, sym, subst, ap, ◌∙◌, arith}
use Rattle.std.specs.Prelude.{IsSomeAnd, unwrap_or}
use Rattle.page_layout.specs.declared.record.Record.{Record}
use Rattle.page_layout.specs.Page.{Page}
use Rattle.page_layout.specs.Sound.{record_of}
use Rattle.page_layout.specs.Flash.{Operation, Program}
use Rattle.promises.specs.Log.{programs_in}
use Rattle.promises.proofs.LogLemmas.{counts}
use Rattle.collection.specs.Log.{NumbersFrom}
use Rattle.collection.proofs.Logs.{numbers_join}
use Rattle.device_laws.specs.Logs.{RisesLaw}

-- the record of a page with this sequence has it
numbered : (o : Option Record) (n : ℕ) (r : Record) → IsSomeAnd o (λ (x : Record). x.sequence ≡ n) → o ≡ Some r → r.sequence ≡ n
numbered None n r h is = absurd h
numbered (Some x) n r h is = sym (ap (λ (o : Option Record). (unwrap_or o r).sequence) is) ∙ h

-- a program of a log has the sequence that those before it left
at_program : (next : ℕ) (xs zs : List Operation) (row : ℕ) (p left : Page) (passed : Bool) (r : Record) → NumbersFrom next (xs ++ Program row p passed left ∷ zs) → record_of p ≡ Some r
    → (r.sequence ≡ next + programs_in xs) × NumbersFrom (next + programs_in xs + 1) zs
at_program next xs zs row p left passed r h has =
    let rest = ((numbers_join next xs (Program row p passed left ∷ zs)).0 h).1 in
    (numbered (record_of p) (next + programs_in xs) r rest.0 has, rest.1)

pub rises : RisesLaw
rises old new before after told told' w xs ys zs row row' p q left left' passed passed' r r' is has has' =
    let first = at_program old.next xs (ys ++ Program row' q passed' left' ∷ zs) row p left passed r (subst (NumbersFrom old.next) is w.numbers) has in
    let second = at_program (old.next + programs_in xs + 1) ys zs row' q left' passed' r' first.1 has' in
    let all : programs_in w.log ≡ programs_in xs + (programs_in ys + (programs_in zs + 1) + 1) =
    ap programs_in is ∙ ((counts 0 0 xs (Program row p passed left ∷ (ys ++ Program row' q passed' left' ∷ zs))).programs
    ∙ ap (λ n. programs_in xs + (n + 1)) (counts 0 0 ys (Program row' q passed' left' ∷ zs)).programs) in
    record {
      from = omega (arith, first.0);
      rises = omega (arith, first.0, second.0);
      below = omega (arith, second.0, w.next, all);
    }
