-- Replies byte for byte, by the definitions.
use Rattle.std.proofs.Common.{◌≡◌, Some, refl, codes}
use Rattle.toll_wire.proofs.Common.{digits, serde_json_on_literals, OrderExists, Forbidden, MethodNotAllowed, NotImplemented, reply_text, text_of_failure, text_of_reply}
use Rattle.toll_desk.specs.declared.request.Reply.TheVariants.{Order, Refused}
use Rattle.toll_protocol.specs.declared.http_messages.verb.Verb.TheVariants.{Get}
use Rattle.toll_wire.proofs.WorkedBodies.{open_order}

an_order_is_replied : text_of_reply (Order open_order)
    ≡ Some (codes "HTTP/1.1 200 OK\r\ncontent-type: application/json\r\ncontent-length: 58\r\nconnection: close\r\n\r\n{\"batches\":2,\"order\":\"O-1\",\"recipe\":\"R-1\",\"status\":\"open\"}")
unfolding serde_json_on_literals digits reply_text
an_order_is_replied = refl

a_conflict_is_replied : text_of_reply (Refused OrderExists)
    ≡ Some (codes "HTTP/1.1 409 Conflict\r\ncontent-type: application/json\r\ncontent-length: 33\r\nconnection: close\r\n\r\n{\"code\":17,\"error\":\"OrderExists\"}")
unfolding serde_json_on_literals digits reply_text
a_conflict_is_replied = refl

without_a_key_it_is_forbidden : text_of_failure Forbidden
    ≡ codes "HTTP/1.1 403 Forbidden\r\ncontent-type: application/json\r\ncontent-length: 21\r\nconnection: close\r\n\r\n{\"error\":\"Forbidden\"}"
unfolding serde_json_on_literals digits reply_text
without_a_key_it_is_forbidden = refl

another_method_is_replied : text_of_failure (MethodNotAllowed Get)
    ≡ codes "HTTP/1.1 405 Method Not Allowed\r\ncontent-type: application/json\r\ncontent-length: 28\r\nallow: GET\r\nconnection: close\r\n\r\n{\"error\":\"MethodNotAllowed\"}"
unfolding serde_json_on_literals digits reply_text
another_method_is_replied = refl

an_unserved_method_is_replied : text_of_failure NotImplemented ≡ codes "HTTP/1.1 501 Not Implemented\r\ncontent-length: 0\r\nconnection: close\r\n\r\n"
unfolding serde_json_on_literals digits reply_text
an_unserved_method_is_replied = refl
