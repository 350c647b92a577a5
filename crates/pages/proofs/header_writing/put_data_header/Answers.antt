use Rattle.std.proofs.Common.{◌≡◌}
use Rattle.std.proofs.lemmas.Result.{on_ok_weaker}
use Rattle.bits.specs.declared.refusal.Refusal.TheVariants.{Limit}
use Rattle.metadata.specs.Views.{page_header_view}
use Rattle.pages.specs.Headers.{data_header}
use Rattle.pages.proofs.WrittenHeaders.{data_header_size, has_own_data, header_put, never_thrift}
use Rattle.pages.proofs.header_writing.put_data_header.Goals as goal

pub returns-clause-stands : goal.returns-clause-stands
returns-clause-stands c =
    let head = c.args.head in
    let sizes = c.args.sections in
    on_ok_weaker c.write.result (λ p. header_put (page_header_view c.data_header-header.result) (data_header head.version head.encoding head.entries head.nulls head.rows c.args.size sizes.repetitions sizes.definitions) c.args.out.now.items c.write.new.out.items c.data_header-header.ensures
    (data_header_size head.version head.encoding head.entries head.nulls head.rows c.args.size sizes.repetitions sizes.definitions) p) c.write.ensures.stands

pub returns-clause-which : goal.returns-clause-which
returns-clause-which c =
    let head = c.args.head in
    let sizes = c.args.sections in
    never_thrift (λ e. e ≡ Limit) (page_header_view c.data_header-header.result) (data_header head.version head.encoding head.entries head.nulls head.rows c.args.size sizes.repetitions sizes.definitions) c.write.result c.data_header-header.ensures
    (has_own_data head.version head.encoding head.entries head.nulls head.rows c.args.size sizes.repetitions sizes.definitions) c.write.ensures.which
