use Rattle.std.proofs.Common.{refl}
use Rattle.vault.proofs.Chained.{refused as passed}
use Rattle.answers.specs.Importing.{files_view, ImportsFrom}
use Rattle.answers.specs.Unless.{UnlessFrom, not_counted}
use Rattle.answers.proofs.UnlessThere.{then_made, none_made}
use Rattle.answers.proofs.importing.import_files_unless.Goals as goal

pub returns-in_err-count : goal.returns-in_err-count
returns-in_err-count g c = record {
  imports = λ honest s stands.
      let state = g.D.Disk.state in
      let new = c.count_rows.new.store in
      let e = c.in_err-count.field-0.0 in
      passed (λ r. UnlessFrom state c.args.texts c.args.store.now new c.args.filter.now (λ mid t. ImportsFrom state mid new (files_view c.args.files.now) r t) r s) c.from_residual.result e c.from_residual.ensures.1
      (not_counted e (c.in_err-count.ensures.counts honest s stands) refl);
}

pub returns-then-count-gt0 : goal.returns-then-count-gt0
returns-then-count-gt0 g c = record {
  imports = λ honest s stands.
      none_made g.D.Disk.state c.args.texts c.args.store.now c.count_rows.new.store c.args.filter.now s _ c.in_ok-count.count c.if-count-gt0.true (c.in_ok-count.ensures.counts honest s stands);
}

pub returns : goal.returns
returns g c = record {
  imports = λ honest s stands.
      let state = g.D.Disk.state in
      let new = c.import_files.new.store in
      then_made state c.args.texts c.args.store.now c.count_rows.new.store c.args.filter.now s new (λ mid t. ImportsFrom state mid new (files_view c.args.files.now) c.import_files.result t) c.in_ok-count.count c.import_files.result c.if-count-gt0.false
      (c.in_ok-count.ensures.counts honest s stands) (λ t at. c.import_files.ensures.imports (c.in_ok-count.ensures.honest honest) t at);
}
