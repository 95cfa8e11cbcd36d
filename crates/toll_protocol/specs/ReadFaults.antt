-- The names of read faults.
use Rattle.std.specs.Prelude.{codes}
use Rattle.toll_base.specs.Bytes.{Bytes}
use Rattle.toll_protocol.specs.declared.http_messages.reading.ReadFault.{ReadFault}
use Rattle.toll_protocol.specs.declared.http_messages.reading.ReadFault.TheVariants.{Io, Memory}

-- the name of the fault for a request that wasn't read
abbrev pub word_of_read_fault : ReadFault → Bytes
word_of_read_fault Io = codes "Read"
word_of_read_fault Memory = codes "Memory"
