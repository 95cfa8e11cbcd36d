use Rattle.std.proofs.Common.{string_bytes}
use Rattle.serde_json.proofs.FreeTexts.{text_of_value}
use Rattle.toll_wire.proofs.bodies.json_text.text_of.Goals as goal

pub returns-in-Ok : goal.returns-in-Ok
returns-in-Ok g c =
    let sent = c.in-Ok.ensures.events in
    text_of_value (g.T.JsonValue.as_data c.args.value.now) sent.0 (string_bytes c.in-Ok.text) sent.1 sent.2 (g.met.T.JsonValue.exact c.args.value.now)
