use Rattle.std.proofs.Common.{◌≡◌, ℕ, Bool, List, [], ◌++◌, sym, ap, ◌∙◌, subst, append_assoc}
use Rattle.request_stream.specs.Frames.{SendsBytes}
use Rattle.nbd_stream.specs.declared.export.Export.{Export}
use Rattle.nbd_stream.specs.declared.answer.Answer.TheVariants.{Told}
use Rattle.nbd_stream.specs.Options.{option_answer_bytes, option_reply_header, export_info, block_info}
use Rattle.nbd_stream.proofs.answer.send_told.Goals as goal

three_replies : (a b c d e : List ℕ) → a ++ (b ++ (c ++ (d ++ (e ++ [])))) ≡ (a ++ b) ++ ((c ++ d) ++ (e ++ []))
three_replies a b c d e = sym (append_assoc a b (c ++ (d ++ (e ++ [])))) ∙ ap (λ (l : List ℕ). (a ++ b) ++ l) (sym (append_assoc c d (e ++ [])))

told_bytes : (x : Export) (no_zeroes : Bool) (code : ℕ) (a b c d e : List ℕ) → a ≡ option_reply_header code 3 12 → b ≡ export_info x → c ≡ option_reply_header code 3 14 → d ≡ block_info x → e ≡ option_reply_header code 1 0
    → a ++ (b ++ (c ++ (d ++ (e ++ [])))) ≡ option_answer_bytes x no_zeroes code Told
told_bytes x no_zeroes code a b c d e pa pb pc pd pe =
    three_replies a b c d e
    ∙ ap (λ (l : List ℕ). (l ++ b) ++ ((c ++ d) ++ (e ++ []))) pa
    ∙ ap (λ (l : List ℕ). (option_reply_header code 3 12 ++ l) ++ ((c ++ d) ++ (e ++ []))) pb
    ∙ ap (λ (l : List ℕ). (option_reply_header code 3 12 ++ export_info x) ++ ((l ++ d) ++ (e ++ []))) pc
    ∙ ap (λ (l : List ℕ). (option_reply_header code 3 12 ++ export_info x) ++ ((option_reply_header code 3 14 ++ l) ++ (e ++ []))) pd
    ∙ ap (λ (l : List ℕ). (option_reply_header code 3 12 ++ export_info x) ++ ((option_reply_header code 3 14 ++ block_info x) ++ (l ++ []))) pe

pub returns-clause-sends : goal.returns-clause-sends
returns-clause-sends g c = λ no_zeroes.
    subst (λ (l : List ℕ). SendsBytes (g.W.Write.contents c.args.writer.now) (g.W.Write.contents c.send_parts.new.writer) l c.send_parts.result)
    (told_bytes c.args.export.now no_zeroes c.args.code c.reply_header.result c.export_info.result c.reply_header-2.result c.block_info.result c.reply_header-3.result
    c.reply_header.ensures c.export_info.ensures c.reply_header-2.ensures c.block_info.ensures c.reply_header-3.ensures) c.send_parts.ensures.sends
