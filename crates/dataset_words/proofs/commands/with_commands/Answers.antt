use Rattle.dataset_words.proofs.Adding.{adds_none, adds_sub}
use Rattle.dataset_words.proofs.commands.with_commands.Goals as goal

pub returns : goal.returns
returns c =
    let with_create = adds_sub (adds_none c.args.program) c.in_ok-create_command.ensures c.in_ok-subcommand.ensures in
    let with_append = adds_sub with_create c.in_ok-append_command.ensures c.in_ok-subcommand-2.ensures in
    let with_import = adds_sub with_append c.in_ok-import_command.ensures c.in_ok-subcommand-3.ensures in
    let with_query = adds_sub with_import c.in_ok-query_command.ensures c.in_ok-subcommand-4.ensures in
    let with_count = adds_sub with_query c.in_ok-count_command.ensures c.in_ok-subcommand-5.ensures in
    let with_groups = adds_sub with_count c.in_ok-groups_command.ensures c.in_ok-subcommand-6.ensures in
    let with_schema = adds_sub with_groups c.in_ok-schema_command.ensures c.in_ok-subcommand-7.ensures in
    let with_remove = adds_sub with_schema c.in_ok-remove_command.ensures c.in_ok-subcommand-8.ensures in
    let with_rewrite = adds_sub with_remove c.in_ok-rewrite_command.ensures c.in_ok-subcommand-9.ensures in
    let with_add_column = adds_sub with_rewrite c.in_ok-add_column_command.ensures c.in_ok-subcommand-10.ensures in
    adds_sub with_add_column c.in_ok-run_command.ensures c.in_ok-program.ensures
