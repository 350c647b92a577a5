use Rattle.metadata.proofs.Again as again
use Rattle.metadata.proofs.laws.records_again.Goals as goal

pub returns-clause-key_value : goal.returns-clause-key_value
returns-clause-key_value c = again.key_value_again

pub returns-clause-statistics : goal.returns-clause-statistics
returns-clause-statistics c = again.statistics_again

pub returns-clause-column_meta : goal.returns-clause-column_meta
returns-clause-column_meta c = again.column_meta_again

pub returns-clause-chunk_meta : goal.returns-clause-chunk_meta
returns-clause-chunk_meta c = again.chunk_meta_again

pub returns-clause-group_meta : goal.returns-clause-group_meta
returns-clause-group_meta c = again.group_meta_again

pub returns-clause-column_order : goal.returns-clause-column_order
returns-clause-column_order c = again.column_order_again

pub returns-clause-element : goal.returns-clause-element
returns-clause-element c = again.element_again

pub returns-clause-data_page_header : goal.returns-clause-data_page_header
returns-clause-data_page_header c = again.data_page_header_again

pub returns-clause-dictionary_page_header : goal.returns-clause-dictionary_page_header
returns-clause-dictionary_page_header c = again.dictionary_page_header_again

pub returns-clause-data_page_header_v2 : goal.returns-clause-data_page_header_v2
returns-clause-data_page_header_v2 c = again.data_page_header_v2_again
