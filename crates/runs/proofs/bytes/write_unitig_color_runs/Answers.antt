-- `runs::bytes::write_unitig_color_runs` meets its contract.
use Rattle.std.proofs.Common.{◌≡◌, rules, arith, length}
use Rattle.std.proofs.lemmas.Iterator.{YieldsList-from_slice}
use Rattle.std.proofs.lemmas.Iterator.Consumers.{YieldsList-from_copied}
use Rattle.runs.proofs.Laws.Bytes.{write_6}
use Rattle.runs.proofs.bytes.write_unitig_color_runs.Goals as goal

pub returns-in_err-count : goal.returns-in_err-count
returns-in_err-count c = search (rules, write_6)

pub write-requires : goal.write-requires
write-requires c =
    let all : length c.args.runs.now ≡ c.in_ok-count.count = search rules in
    record { asked = search rules; ends = search rules; all = c.args.runs.now; gives = YieldsList-from_copied (YieldsList-from_slice c.args.runs.now cc); few = omega arith }

pub returns : goal.returns
returns c =
    let all : length c.args.runs.now ≡ c.in_ok-count.count = search rules in
    c.write.ensures c.args.runs.now (YieldsList-from_copied (YieldsList-from_slice c.args.runs.now cc)) all
