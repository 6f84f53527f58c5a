use Rattle.std.proofs.Common.{◌≡◌, ℕ, List, [], ◌++◌, Result, Ok, Err, ap, ◌∙◌, subst, append-nil}
use Rattle.request_stream.specs.Frames.{SendsBytes}
use Rattle.nbd_stream.specs.declared.reply.RequestError.{RequestError}
use Rattle.nbd_stream.specs.Frames.{simple_reply_bytes, reply_header_bytes, error_number_of}
use Rattle.nbd_stream.proofs.reply.send_reply.Goals as goal

done_bytes : (cookie : ℕ) (done : Result (Unit {0}) RequestError) (x : Unit {0}) (header bytes : List ℕ) → done ≡ Ok x → header ≡ reply_header_bytes (error_number_of done) cookie → header ++ (bytes ++ []) ≡ simple_reply_bytes cookie done bytes
done_bytes cookie (Ok y) x header bytes is head = ap (λ (l : List ℕ). l ++ (bytes ++ [])) head ∙ ap (λ (l : List ℕ). reply_header_bytes 0 cookie ++ l) (append-nil bytes)
done_bytes cookie (Err e) x header bytes is head = (let no : ⊥ = cc in absurd no)

refused_bytes : (cookie : ℕ) (done : Result (Unit {0}) RequestError) (e : RequestError) (header bytes : List ℕ) → done ≡ Err e → header ≡ reply_header_bytes (error_number_of done) cookie → header ++ [] ≡ simple_reply_bytes cookie done bytes
refused_bytes cookie (Ok y) e header bytes is head = (let no : ⊥ = cc in absurd no)
refused_bytes cookie (Err f) e header bytes is head = append-nil header ∙ head

pub returns-in-Ok-clause-sends : goal.returns-in-Ok-clause-sends
returns-in-Ok-clause-sends g c =
    let head = c.reply_header-header.ensures ∙ ap (λ (n : ℕ). reply_header_bytes n c.args.cookie) c.error_number.ensures in
    subst (λ (l : List ℕ). SendsBytes (g.W.Write.contents c.args.writer.now) (g.W.Write.contents c.send_parts.new.writer) l c.send_parts.result)
    (done_bytes c.args.cookie c.args.done _ c.reply_header-header.result c.args.bytes.now c.in-Ok.is head) c.send_parts.ensures.sends

pub returns-in-Err-clause-sends : goal.returns-in-Err-clause-sends
returns-in-Err-clause-sends g c =
    let head = c.reply_header-header.ensures ∙ ap (λ (n : ℕ). reply_header_bytes n c.args.cookie) c.error_number.ensures in
    subst (λ (l : List ℕ). SendsBytes (g.W.Write.contents c.args.writer.now) (g.W.Write.contents c.send_parts-in-Err.new.writer) l c.send_parts-in-Err.result)
    (refused_bytes c.args.cookie c.args.done _ c.reply_header-header.result c.args.bytes.now c.in-Err.is head) c.send_parts-in-Err.ensures.sends
