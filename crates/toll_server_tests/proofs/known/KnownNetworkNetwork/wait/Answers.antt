use Rattle.std.proofs.Common.{rules}
use Rattle.toll_server_tests.specs.Known.{known_keys}
use Rattle.toll_server_tests.proofs.known.KnownNetworkNetwork.wait.Goals as goal

pub returns : goal.returns
returns c = (search rules, (known_keys c.args.self.now.owner, search rules, search rules))
