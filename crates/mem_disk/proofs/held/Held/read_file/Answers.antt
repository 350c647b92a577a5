use Rattle.std.proofs.Common.{◌<◌, ◌^◌, sym, ◌∙◌, ap, arith, length, take, drop, List, ℕ}
use Rattle.disk.specs.declared.fault.Fault.TheVariants.{Absent, Failed}
use Rattle.mem_disk.specs.Loose.{empty, replayed}
use Rattle.mem_disk.proofs.Effects.{file_within, file_content, reads_still, not_absent, err_is, ok_is_no_err}
use Rattle.mem_disk.proofs.held.Held.read_file.Goals as goal

pub bytes_of-bytes-requires : goal.bytes_of-bytes-requires
bytes_of-bytes-requires c = file_within _ _ c.args.self.now.kept.sound c.args.path.now c.in-File.node (sym c.in-File.ensures)

pub returns-clause-effect : goal.returns-clause-effect
returns-clause-effect c f g r s =
    let calls = c.args.self.now.calls.items in
    let whole = (replayed empty calls).bytes c.in-File.node in
    let is = c.bytes_of-bytes.ensures in
    let small : length whole < 2 ^ 63 = let long = ap length is in let most = c.bytes_of-bytes.type_inv.1 in omega (arith, long, most) in (
      record {
        still = reads_still calls f g r s;
        done = (whole, file_content calls f r c.args.path.now c.in-File.node (sym c.in-File.ensures), small, c.in_ok-read.ensures ∙ ap (λ (xs : List ℕ). take c.args.len (drop c.args.from xs)) is);
        absent = λ x. absurd (ok_is_no_err _ Absent x);
      },
      record {
        still = reads_still calls f g r s;
        done = tt;
        absent = λ x. absurd (not_absent (err_is Failed Absent x));
      },
    )
