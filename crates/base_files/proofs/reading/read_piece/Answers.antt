use Rattle.std.proofs.Common.{◌≡◌, ◌+◌, take, length, ap, ◌∙◌, rules, arith}
use Rattle.std.proofs.lemmas.List.{with_items_is, places}
use Rattle.base_files.proofs.reading.InPlace.{front_of_longer, moves_piece}
use Rattle.base_files.proofs.reading.read_piece.Goals as goal

pub returns-in-Ok : goal.returns-in-Ok
returns-in-Ok g c =
    let start = c.len-start.result in
    let filled = c.read_at.new.buf in
    let end = start + c.in-Ok.count in
    let whole = with_items_is c.resize.new.self filled (search (rules, places)) in
    let long : length filled ≡ start + c.args.room = search (rules, places) in
    let begins : start ≡ length c.args.bytes.now.items = search (rules, places) in
    let front = front_of_longer c.args.bytes.now.items c.resize.new.self.items _ start (start + c.args.room) begins (omega arith)
    c.in_ok-resize.ensures.items in
    moves_piece _ _ c.args.bytes.now.items filled _ start c.in-Ok.count _ begins
    (c.in-Ok.ensures.front ∙ ap (take start) c.as_mut_slice.ensures.value ∙ front) long
    (c.truncate.ensures.items ∙ ap (take end) whole) c.in-Ok.ensures.within c.in-Ok.ensures.bytes
    (λ empty some. c.in-Ok.ensures.ends empty (omega arith))
