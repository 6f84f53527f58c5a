use Rattle.std.proofs.Common.{◌≡◌, ℕ, Bool, true, false, List, [], ◌∷◌, ◌++◌, sym, ap, ◌∙◌, subst, append_assoc, append-nil}
use Rattle.std.specs.Prelude.{replicate}
use Rattle.request_stream.specs.Frames.{SendsBytes}
use Rattle.nbd_stream.specs.declared.export.Export.{Export}
use Rattle.nbd_stream.specs.declared.answer.Answer.TheVariants.{Listed, Chosen}
use Rattle.nbd_stream.specs.Options.{option_answer_bytes, option_reply_header, export_bytes}
use Rattle.nbd_stream.proofs.answer.send_answer.Goals as goal

abbrev no_name : List ℕ
no_name = 0 ∷ 0 ∷ 0 ∷ 0 ∷ []

listed_bytes : (x : Export) (no_zeroes : Bool) (code : ℕ) (a b : List ℕ) → a ≡ option_reply_header code 2 4 → b ≡ option_reply_header code 1 0 → a ++ (no_name ++ (b ++ [])) ≡ option_answer_bytes x no_zeroes code Listed
listed_bytes x no_zeroes code a b pa pb =
    sym (append_assoc a no_name (b ++ []))
    ∙ ap (λ (l : List ℕ). (l ++ no_name) ++ (b ++ [])) pa
    ∙ ap (λ (l : List ℕ). (option_reply_header code 2 4 ++ no_name) ++ (l ++ [])) pb

chosen_bytes : (x : Export) (no_zeroes : Bool) (code : ℕ) (a : List ℕ) → no_zeroes ≡ false → a ≡ export_bytes x → a ++ (replicate 124 0 ++ []) ≡ option_answer_bytes x no_zeroes code Chosen
chosen_bytes x true code a is pa = (let no : ⊥ = cc in absurd no)
chosen_bytes x false code a is pa = ap (λ (l : List ℕ). l ++ (replicate 124 0 ++ [])) pa ∙ ap (λ (l : List ℕ). export_bytes x ++ l) (append-nil (replicate 124 0))

pub returns-in-Short-clause-sends : goal.returns-in-Short-clause-sends
returns-in-Short-clause-sends g c =
    subst (λ (l : List ℕ). SendsBytes (g.W.Write.contents c.args.writer.now) (g.W.Write.contents c.send_parts.new.writer) l c.send_parts.result)
    (ap (λ (l : List ℕ). l ++ []) c.reply_header.ensures ∙ ap (option_answer_bytes c.args.export.now c.args.no_zeroes c.args.code) (sym c.in-Short.is)) c.send_parts.ensures.sends

pub returns-in-Listed-clause-sends : goal.returns-in-Listed-clause-sends
returns-in-Listed-clause-sends g c =
    subst (λ (l : List ℕ). SendsBytes (g.W.Write.contents c.args.writer.now) (g.W.Write.contents c.send_parts-in-Listed.new.writer) l c.send_parts-in-Listed.result)
    (listed_bytes c.args.export.now c.args.no_zeroes c.args.code c.reply_header-in-Listed.result c.reply_header-in-Listed-2.result c.reply_header-in-Listed.ensures c.reply_header-in-Listed-2.ensures
    ∙ ap (option_answer_bytes c.args.export.now c.args.no_zeroes c.args.code) (sym c.in-Listed.is)) c.send_parts-in-Listed.ensures.sends

pub returns-in-Told-clause-sends : goal.returns-in-Told-clause-sends
returns-in-Told-clause-sends g c =
    subst (λ (l : List ℕ). SendsBytes (g.W.Write.contents c.args.writer.now) (g.W.Write.contents c.send_told.new.writer) l c.send_told.result)
    (ap (option_answer_bytes c.args.export.now c.args.no_zeroes c.args.code) (sym c.in-Told.is)) (c.send_told.ensures.sends c.args.no_zeroes)

pub returns-in-Chosen-2-clause-sends : goal.returns-in-Chosen-2-clause-sends
returns-in-Chosen-2-clause-sends g c =
    subst (λ (l : List ℕ). SendsBytes (g.W.Write.contents c.args.writer.now) (g.W.Write.contents c.send_parts-in-Chosen-2.new.writer) l c.send_parts-in-Chosen-2.result)
    (chosen_bytes c.args.export.now c.args.no_zeroes c.args.code c.export_bytes-in-Chosen-2.result c.if-no_zeroes.false c.export_bytes-in-Chosen-2.ensures
    ∙ ap (option_answer_bytes c.args.export.now c.args.no_zeroes c.args.code) (sym c.in-Chosen-2.is)) c.send_parts-in-Chosen-2.ensures.sends
