-- Definitions and lemmas that several proofs here use.
pub use Rattle.httparse.specs.Spans.{FindsRequest, IsRequestAt, IsRequestOf, IsRequestWithin, header_bytes, name_and_value}
pub use Rattle.std.proofs.lemmas.List.{drop-append-le, drop-drop, drop_all, get_or-take, get_or_past, length-drop, length-map, length-take, length-take-le, map-append, places, take-append-drop, take-append-le, take-take, take_rest, with_items_is}
pub use Rattle.std.specs.Io.KnownBytes.{Appends, Consumes, IsAtEnd}
pub use Rattle.toll_protocol.specs.Fields.{Pair, Seen, absent, fields_named, found_among, is_named, is_present, length_claimed, length_of, once, several, values_of}
pub use Rattle.toll_protocol.specs.Head.{IsHeadLen, IsHeadOf}
pub use Rattle.toll_protocol.specs.Parsing.{HasBody, IsParsedAs, IsSettled, ParseResult, by_length, checked, host_fails, refused}
pub use Rattle.toll_protocol.specs.PlantMessages.{IsCall, IsResponse, call_text, file_text, response_text}
pub use Rattle.toll_protocol.specs.Streams.{AllNonEmpty, AppendsRead, IsEachReadWhile, NoneBlocked, OneMoreRead, ReadsWhile, RecordsFailure, bytes_between}
pub use Rattle.toll_protocol.specs.Words.{AreWords, HasNoZero, IsWord, words_text}
