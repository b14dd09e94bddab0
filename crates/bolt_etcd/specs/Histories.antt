-- What etcd can write, what compactions keep of it, and what shows that something of it is missing.
pub mod Compactions
pub mod FewTransactions
pub mod ForHistories
pub mod Possible
pub mod Reported
pub mod ReportedRevisions
pub mod Taken
pub mod Transactions
pub mod WholeStores
